-- Every list of turns on a program's table and a round that start has made fresh: the numbers are the model engine's
-- replies, and the round agrees with it. By induction on the list, each call and each change agreeing, and the table in
-- force saying the program in force.
use Rattle.lib_base.proofs.Prelude.{ℕ, ◌≤◌, ◌≡◌, refl, sym, subst, true, List, [], ◌∷◌, map, length, le-leb}
use Rattle.lib_base.specs.Basics.{All}
use Rattle.lib_word.proofs.Laws.{long}
use Rattle.spec_language.specs.Syntax.{Program}
use Rattle.spec_language.specs.Valid.{Accepted}
use Rattle.spec_semantics.proofs.Lengths.{length_fresh}
use Rattle.spec_model.specs.Model.{engine, Call, Turn, call, change, State, state, turn, run_turns, replies, begun}
use Rattle.spec_model.specs.Claims.{in_force}
use Rattle.spec_model.specs.Sound.{Sound}
use Rattle.spec_model.proofs.History.{Fit, turn_fits, begun_fits}
use Rattle.format_image.specs.Table.{table_of}
use Rattle.format_image.proofs.ImageLaws.{Says}
use Rattle.run_start.specs.Start.{fresh_bytes}
use Rattle.refine_calls.specs.Refinement.{Kept, coded_reply, ByteTurn, calls, mends, Bytes, bytes, turn_on_bytes, numbers_on, bytes_after, ViewIn}
use Rattle.refine_calls.specs.Turns.{TableFor, IsTurn, AreTurns, Agreement}
use Rattle.refine_calls.proofs.Slots.{kept_trans}
use Rattle.refine_calls.proofs.Agrees.{call_agrees}
use Rattle.refine_calls.proofs.FreshRound.{fresh_kept, fresh_rel}
use Rattle.refine_calls.proofs.Refines.{valid, accepted_says, alike_view}
use Rattle.refine_calls.proofs.Mends.{AlikeIn, mend_agrees, force_agrees}

-- the table in force says the program in force, and the round stands for the engine
pub record Stand (l₀ : List ℕ) (b : Bytes) (s : State) : Type 0 where
  pub fit : Fit s
  pub says : Says (in_force s) b.table
  pub alike : AlikeIn b.round s
  pub kept : Kept l₀ b.round

table_for : (q : Program) (u : List ℕ) → TableFor q u → Says q u
table_for q u f = subst (Says q) (sym f.left) (accepted_says q f.accepted f.lent f.room)

-- one turn: its number, and how the bytes stand after it
pub record Turned (l₀ : List ℕ) (b : Bytes) (x : ByteTurn) (s : State) (t : Turn) : Type 0 where
  pub answered : (turn_on_bytes x b).number ≡ coded_reply (turn t s).reply
  pub stand : Stand l₀ (turn_on_bytes x b).after (turn t s).after

call_turned : (l₀ : List ℕ) (b : Bytes) (c : Call) (s : State) → Stand l₀ b s → Turned l₀ b (calls c) s (call c)
unfolding turn turn_on_bytes
call_turned l₀ b c (state p w) h =
    let a = call_agrees p h.fit.0 b.table h.says c b.round w h.alike h.fit.1 in
    record {
      answered = a.answered;
      stand = record { fit = turn_fits (call c) (state p w) tt h.fit; says = h.says; alike = a.alike; kept = kept_trans h.kept a.kept };
    }

change_turned : (l₀ : List ℕ) (b : Bytes) (u : List ℕ) (q : Program) (s : State) → TableFor q u → Stand l₀ b s → Turned l₀ b (mends u) s (change q)
unfolding turn_on_bytes
change_turned l₀ b u q (state p (engine k waiting r d)) f h =
    let vq = valid q f.accepted in
    let new = table_for q u f in
    let a = mend_agrees p q h.fit.0 vq b.table u h.says new f.short b.round k waiting r d h.alike h.fit.1 in
    record {
      answered = a.answered;
      stand = record {
        fit = turn_fits (change q) (state p (engine k waiting r d)) vq h.fit;
        says = force_agrees p q h.fit.0 vq b.table u h.says new f.short b.round k waiting r d h.alike h.fit.1;
        alike = a.alike;
        kept = kept_trans h.kept a.kept;
      };
    }

pub turned : (l₀ : List ℕ) (b : Bytes) (x : ByteTurn) (s : State) (t : Turn) → IsTurn x t → Stand l₀ b s → Turned l₀ b x s t
turned l₀ b (calls c) s (call e) m h = subst (λ (y : Call). Turned l₀ b (calls c) s (call y)) m (call_turned l₀ b c s h)
turned l₀ b (calls c) s (change q) m h = absurd m
turned l₀ b (mends u) s (call e) m h = absurd m
turned l₀ b (mends u) s (change q) m h = change_turned l₀ b u q s m h

-- ---- lists

pub record Runs (l₀ : List ℕ) (b : Bytes) (xs : List ByteTurn) (s : State) (ts : List Turn) : Type 0 where
  pub answered : numbers_on xs b ≡ map coded_reply (replies ts s)
  pub stand : Stand l₀ (bytes_after xs b) (run_turns ts s)

pub turns_agree : (l₀ : List ℕ) (b : Bytes) (xs : List ByteTurn) (s : State) (ts : List Turn) → AreTurns xs ts → Stand l₀ b s → Runs l₀ b xs s ts
unfolding numbers_on bytes_after replies run_turns
turns_agree l₀ b [] s [] m h = record { answered = refl; stand = h }
turns_agree l₀ b [] s (t ∷ ts) m h = absurd m
turns_agree l₀ b (x ∷ xs) s [] m h = absurd m
turns_agree l₀ b (x ∷ xs) s (t ∷ ts) m h =
    let o = turned l₀ b x s t m.0 h in
    let k = turns_agree l₀ (turn_on_bytes x b).after xs (turn t s).after ts m.1 o.stand in
    record { answered = λ z. o.answered z ∷ k.answered z; stand = k.stand }

view_in : (l : List ℕ) (s : State) → AlikeIn l s → ViewIn l s
view_in l (state p w) h = alike_view p l w h

-- the turns that they mean change to valid programs only
pub turns_sound : (xs : List ByteTurn) (ts : List Turn) → AreTurns xs ts → All Sound ts
turns_sound [] [] m = tt
turns_sound [] (t ∷ ts) m = absurd m
turns_sound (x ∷ xs) [] m = absurd m
turns_sound (calls c ∷ xs) (call e ∷ ts) m = (tt, turns_sound xs ts m.1)
turns_sound (calls c ∷ xs) (change q ∷ ts) m = absurd m.0
turns_sound (mends u ∷ xs) (call e ∷ ts) m = absurd m.0
turns_sound (mends u ∷ xs) (change q ∷ ts) m = (valid q m.0.accepted, turns_sound xs ts m.1)

-- ---- from a fresh round: p is accepted; t₀ are the bytes lent for the table, l₀ those lent for the round

module _ (p : Program) (ok : Accepted p) (t₀ l₀ : List ℕ) (table_room : 34816 ≤ length t₀) (round_room : 2048 ≤ length l₀) where
  whole : long l₀ ≡ true
  unfolding long
  whole = le-leb 2048 (length l₀) round_room

  abbrev pub fresh_from : Bytes
  fresh_from = bytes (table_of p t₀) (fresh_bytes (table_of p t₀) l₀)

  pub fresh_stand : Stand l₀ fresh_from (begun p)
  fresh_stand =
      let says = accepted_says p ok t₀ table_room in
      record {
        fit = begun_fits p (valid p ok);
        says = says;
        alike = fresh_rel p (table_of p t₀) says (length_fresh p) l₀ whole;
        kept = fresh_kept (table_of p t₀) l₀ whole;
      }

  pub runs : (xs : List ByteTurn) (ts : List Turn) → AreTurns xs ts → Runs l₀ fresh_from xs (begun p) ts
  runs xs ts m = turns_agree l₀ fresh_from xs (begun p) ts m fresh_stand

  pub turns_refine : (xs : List ByteTurn) (ts : List Turn) → AreTurns xs ts → Agreement l₀ fresh_from xs (begun p) ts
  turns_refine xs ts m =
      let a = runs xs ts m in
      record { answered = a.answered; viewed = view_in (bytes_after xs fresh_from).round (run_turns ts (begun p)) a.stand.alike; kept = a.stand.kept }
