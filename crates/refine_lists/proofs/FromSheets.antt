-- Demand 3 holds from sheets on: the table that compile leaves for an accepted sheet is its
-- program's, and its passives fit.
use Rattle.lib_base.proofs.Prelude.{ℕ, ◌≤◌, ◌<◌, ◌≡◌, refl, ◌∙◌, sym, ap, subst, List, [], ◌∷◌, map, Forall₂·nil}
use Rattle.lib_base.proofs.Prelude.{Forall₂·cons, length}
use Rattle.lib_base.specs.Basics.{All}
use Rattle.lib_word.specs.Word.{get}
use Rattle.spec_language.specs.Syntax.{Program}
use Rattle.spec_language.specs.Sheet.{Sheet}
use Rattle.spec_language.specs.Grammar.{encode}
use Rattle.spec_language.specs.Accepted.{SheetAccepted}
use Rattle.spec_language.specs.Valid.{Accepted}
use Rattle.spec_model.specs.Model.{Turn, call, change, Call, begun}
use Rattle.spec_model.specs.Claims.{in_force, after}
use Rattle.format_image.specs.Table.{table_of}
use Rattle.back_compile.specs.Verdict.{compile_on}
use Rattle.back_compile.specs.Compiled.{Compiled, program_of}
use Rattle.back_compile.proofs.AcceptedExactly.{accepted_exactly}
use Rattle.format_layout.specs.Round.{CallResult}
use Rattle.refine_calls.specs.Refinement.{calls, bytes_after, Bytes, bytes}
use Rattle.refine_calls.specs.Turns.{IsTurn, AreTurns, TableFor}
use Rattle.refine_calls.proofs.Refines.{valid}
use Rattle.refine_calls.proofs.Short.{sheet_short}
use Rattle.refine_calls.proofs.TurnsRefine as refine
use Rattle.refine_lists.specs.Lists.{OneList, TwoLists, board_of, IdleNow, SheetTurn, calling, mending, Compiles, on_bytes, Means, AllMean, fresh_round_on, OnlyCalls, Prepared, TwoRounds, TwoOnlyCalls}
use Rattle.refine_lists.proofs.Bytes.{encode_small}
use Rattle.refine_lists.proofs.Sheets.{table_room, program_accepted, begun as begins}
use Rattle.refine_lists.proofs.ListsHold.{PreviewedAs, list_previewed, one_list, two_lists}
use Rattle.refine_lists.proofs.OnlyCallsHold.{only_calls, two_only_calls}

-- ---- tables

pub table_is : (s ps t₀ : List ℕ) → All (λ b. b < 256) s → (x : Sheet) → encode x ≡ s → SheetAccepted (get ps) (length ps) x → 34816 ≤ length t₀
    → (compile_on s ps t₀).1 ≡ table_of (program_of ps x) t₀
table_is s ps t₀ small x e ok a = ap (λ (o : Compiled). o.1) ((accepted_exactly s ps t₀ small a).1 x e ok)

-- the table of an accepted sheet
pub table_for : (s ps t : List ℕ) → All (λ b. b < 256) s → All (λ b. b < 256) ps → (compile_on s ps t).0 ≡ 0 → (x : Sheet) → encode x ≡ s
    → SheetAccepted (get ps) (length ps) x → TableFor (program_of ps x) (compile_on s ps t).1
table_for s ps t small words h x e ok =
    let room = table_room s ps t h in
    let accepted = program_accepted ps words x ok in
    record {
      accepted = accepted;
      short = sheet_short (get ps) x (valid (program_of ps x) accepted) ok.fits;
      lent = t;
      room = room;
      left = table_is s ps t small x e ok room;
    }

-- ---- turns

mean_bytes : (x : SheetTurn) (t : Turn) → Compiles x → Means x t → IsTurn (on_bytes x) t
mean_bytes (calling c) (call d) k m = m
mean_bytes (calling c) (change q) k m = m
mean_bytes (mending s ps t) (call d) k m = m
mean_bytes (mending s ps t) (change q) k m =
    subst (λ (r : Program). TableFor r (compile_on s ps t).1) (sym m.3) (table_for s ps t k.0 k.1 k.2 m.0 m.1 m.2)

all_bytes : {xs : List SheetTurn} {ts : List Turn} → AllMean xs ts → All Compiles xs → AreTurns (map on_bytes xs) ts
all_bytes Forall₂·nil k = tt
all_bytes (Forall₂·cons {a = x} {b = t} {l₁ = xs} {l₂ = ts} m ms) k = (mean_bytes x t k.0 m, all_bytes {xs = xs} {ts = ts} ms k.1)

-- each turn means one of the model engine's
some_turn : (x : SheetTurn) → Compiles x → (t : Turn) × Means x t
some_turn (calling c) k = (call c, refl)
some_turn (mending s ps t) k =
    let a = (accepted_exactly s ps t k.0 (table_room s ps t k.2)).0 k.2 in
    (change (program_of ps a.0), (a.0, a.1, a.2, refl))

pub some_turns : (xs : List SheetTurn) → All Compiles xs → (ts : List Turn) × AllMean xs ts
some_turns [] k = ([], Forall₂·nil)
some_turns (x ∷ xs) k =
    let t = some_turn x k.0 in
    let ts = some_turns xs k.1 in
    (t.0 ∷ ts.0, Forall₂·cons t.1 ts.1)

-- ---- fresh rounds

-- what is sent of a sheet is bytes
pub prepared_bytes : (s ps t l : List ℕ) (x : Sheet) → Prepared s ps t l x → All (λ b. b < 256) s
prepared_bytes s ps t l x r = subst (All (λ b. b < 256)) r.sent_as (encode_small x r.taken.fits)

fresh_is : (s ps t₀ l₀ : List ℕ) (x : Sheet) (r : Prepared s ps t₀ l₀ x) (p : Program) → program_of ps x ≡ p → (ok : Accepted p) (a : 34816 ≤ length t₀)
    → refine.fresh_from p ok t₀ l₀ a r.room ≡ fresh_round_on s ps t₀ l₀
fresh_is s ps t₀ l₀ x r p f ok a =
    let t : (compile_on s ps t₀).1 ≡ table_of p t₀ =
    table_is s ps t₀ (prepared_bytes s ps t₀ l₀ x r) x r.sent_as r.taken a ∙ ap (λ (q : Program). table_of q t₀) f in
    let m = ap (λ (o : CallResult). o.1) (begins p ok t₀ l₀ (compile_on s ps t₀).1 a r.room t) in
    λ i. bytes (sym t i) (sym m i)

-- ---- every list, and two

module _ (s ps t₀ l₀ : List ℕ) (x : Sheet) (r : Prepared s ps t₀ l₀ x) where
  pub prepared_accepted : Accepted (program_of ps x)
  prepared_accepted = program_accepted ps r.param_bytes x r.taken

  pub prepared_room : 34816 ≤ length t₀
  prepared_room = table_room s ps t₀ r.compiles

  moved_to : (P : Bytes → Type 0) → P (refine.fresh_from (program_of ps x) prepared_accepted t₀ l₀ prepared_room r.room) → P (fresh_round_on s ps t₀ l₀)
  moved_to P h = subst P (fresh_is s ps t₀ l₀ x r (program_of ps x) refl prepared_accepted prepared_room) h

  pub list_of : (xs : List SheetTurn) → All Compiles xs → (ts : List Turn) → AllMean xs ts → OneList (program_of ps x) l₀ (fresh_round_on s ps t₀ l₀) (map on_bytes xs) ts
  list_of xs k ts m =
      moved_to (λ (b : Bytes). OneList (program_of ps x) l₀ b (map on_bytes xs) ts)
      (one_list (program_of ps x) prepared_accepted t₀ l₀ prepared_room r.room (map on_bytes xs) ts (all_bytes m k))

  pub stands_fresh : refine.Stand l₀ (fresh_round_on s ps t₀ l₀) (begun (program_of ps x))
  stands_fresh = moved_to (λ (b : Bytes). refine.Stand l₀ b (begun (program_of ps x))) (refine.fresh_stand (program_of ps x) prepared_accepted t₀ l₀ prepared_room r.room)

  pub stands_after : (xs : List SheetTurn) → All Compiles xs → (ts : List Turn) → AllMean xs ts
      → refine.Stand l₀ (bytes_after (map on_bytes xs) (fresh_round_on s ps t₀ l₀)) (after (program_of ps x) ts)
  stands_after xs k ts m =
      moved_to (λ (b : Bytes). refine.Stand l₀ (bytes_after (map on_bytes xs) b) (after (program_of ps x) ts))
      (refine.runs (program_of ps x) prepared_accepted t₀ l₀ prepared_room r.room (map on_bytes xs) ts (all_bytes m k)).stand

  pub previewed_after : (xs : List SheetTurn) → All Compiles xs → (ts : List Turn) → AllMean xs ts
      → PreviewedAs (program_of ps x) (fresh_round_on s ps t₀ l₀) (map on_bytes xs) ts
  previewed_after xs k ts m =
      moved_to (λ (b : Bytes). PreviewedAs (program_of ps x) b (map on_bytes xs) ts)
      (list_previewed (program_of ps x) prepared_accepted t₀ l₀ prepared_room r.room (map on_bytes xs) ts (all_bytes m k))

  pub calls_of_law : (cs : List Call) → OnlyCalls (program_of ps x) l₀ (fresh_round_on s ps t₀ l₀) cs
  calls_of_law cs = moved_to (λ (b : Bytes). OnlyCalls (program_of ps x) l₀ b cs) (only_calls (program_of ps x) prepared_accepted t₀ l₀ prepared_room r.room cs)

module _ (s ps qs t₀ l₀ t₁ l₁ : List ℕ) (x : Sheet) (r : TwoRounds s ps qs t₀ l₀ t₁ l₁ x) where
  abbrev p : Program
  p = program_of ps x

  ok : Accepted p
  ok = prepared_accepted s ps t₀ l₀ x r.one

  a : 34816 ≤ length t₀
  a = prepared_room s ps t₀ l₀ x r.one

  b : 34816 ≤ length t₁
  b = prepared_room s qs t₁ l₁ x r.other

  abbrev one : Bytes
  one = refine.fresh_from p ok t₀ l₀ a r.one.room

  abbrev other : Bytes
  other = refine.fresh_from p ok t₁ l₁ b r.other.room

  -- the other's parameters fill in the same program
  moved : (P : Bytes → Bytes → Type 0) → P one other → P (fresh_round_on s ps t₀ l₀) (fresh_round_on s qs t₁ l₁)
  moved P h =
      subst (λ (c : Bytes). P c (fresh_round_on s qs t₁ l₁)) (fresh_is s ps t₀ l₀ x r.one p refl ok a)
      (subst (P one) (fresh_is s qs t₁ l₁ x r.other p r.filled ok b) h)

pub two_lists_hold : TwoLists
two_lists_hold s ps qs t₀ l₀ t₁ l₁ x r xs ys kx ky ts us mt mu same kept apart =
    let p = program_of ps x in
    moved s ps qs t₀ l₀ t₁ l₁ x r
    (λ (c d : Bytes).
    IdleNow (bytes_after (map on_bytes xs) c) → IdleNow (bytes_after (map on_bytes ys) d)
    → board_of (in_force (after p ts)) (bytes_after (map on_bytes xs) c).round ≡ board_of (in_force (after p us)) (bytes_after (map on_bytes ys) d).round)
    (two_lists p (ok s ps qs t₀ l₀ t₁ l₁ x r) t₀ l₀ t₁ l₁ (a s ps qs t₀ l₀ t₁ l₁ x r) r.one.room (b s ps qs t₀ l₀ t₁ l₁ x r) r.other.room
    (map on_bytes xs) (map on_bytes ys) ts us (all_bytes mt kx) (all_bytes mu ky) same kept apart)

pub two_only_calls_hold : TwoOnlyCalls
two_only_calls_hold s ps qs t₀ l₀ t₁ l₁ x r cs ds same apart =
    let p = program_of ps x in
    moved s ps qs t₀ l₀ t₁ l₁ x r
    (λ (c d : Bytes).
    IdleNow (bytes_after (map calls cs) c) → IdleNow (bytes_after (map calls ds) d)
    → board_of p (bytes_after (map calls cs) c).round ≡ board_of p (bytes_after (map calls ds) d).round)
    (two_only_calls p (ok s ps qs t₀ l₀ t₁ l₁ x r) t₀ l₀ t₁ l₁ (a s ps qs t₀ l₀ t₁ l₁ x r) r.one.room (b s ps qs t₀ l₀ t₁ l₁ x r) r.other.room cs ds same apart)
