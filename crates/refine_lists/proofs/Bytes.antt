-- What is sent of a sheet that fits is bytes: tags, contents and the two parts of each length are below 256, lengths
-- because the whole has at most 8,192 bytes. By induction on the sheet.
use Rattle.lib_base.proofs.Prelude.{ℕ, ◌≤◌, ◌<◌, ◌^◌, Option, some, none, List, [], ◌∷◌, ◌++◌, length, length-append}
use Rattle.lib_base.proofs.Prelude.{arith}
use Rattle.lib_base.specs.Basics.{All}
use Rattle.lib_base.proofs.Tools.{all_join}
use Rattle.spec_language.specs.Syntax.{Phase, immediate, later}
use Rattle.spec_language.specs.Sheet.{Clause, clause, Item, formula, state, row, Signal, Entry, Sheet, Term}
use Rattle.spec_language.specs.Grammar.{field, word, encode_expr, encode_phase, encode_handler, encode_handlers, tag_of, encode_item, encode_viewer, encode_behaviour, encode_behaviours, encode_sender, encode_event, encode_events, encode, Arity, unary, ternary, binary, TermFits, t_literal, t_variable, t_param, t_apply1, t_apply2, t_apply3, ClausesFit, ItemFits, ByteFits, SignalFits, EntryFits, SheetFits}

abbrev Small : List ℕ → Type 0
Small = All (λ b. b < 256)

field_small : (t : ℕ) (v : List ℕ) → t < 256 → length v ≤ 8192 → Small v → Small (field t v)
field_small t v a b h = (a, (omega arith, (omega arith, h)))

word_small : (w : ℕ) → w < 2 ^ 32 → Small (word w)
word_small w h = (omega arith, (omega arith, (omega arith, (omega arith, tt))))

-- of two parts that are small where they are short
both_small : (a b : List ℕ) → length (a ++ b) ≤ 8192 → (length a ≤ 8192 → Small a) → (length b ≤ 8192 → Small b) → Small (a ++ b)
both_small a b n f g = let q = length-append a b in all_join (λ c. c < 256) a b (f (omega arith)) (g (omega arith))

arity_small : {f n : ℕ} → Arity f n → f < 256
arity_small unary = omega arith
arity_small ternary = omega arith
arity_small (binary a b c) = omega arith

expr_small : {k : ℕ} {x : Term} → TermFits k x → length (encode_expr x) ≤ 8192 → Small (encode_expr x)
unfolding encode_expr
expr_small (t_literal {w = w} h) n = field_small 16 (word w) (omega arith) (omega arith) (word_small w h)
expr_small (t_variable {i = i} h) n = field_small 17 (i ∷ []) (omega arith) (omega arith) (h, tt)
expr_small (t_param {n = i} h) n = field_small 19 (i ∷ []) (omega arith) (omega arith) (omega arith, tt)
expr_small (t_apply1 {f = f} {a = a} r p) n = field_small 18 (f ∷ encode_expr a) (omega arith) (omega arith) (arity_small r, expr_small p (omega arith))
expr_small (t_apply2 {f = f} {a = a} {b = b} r p q) n =
    field_small 18 (f ∷ (encode_expr a ++ encode_expr b)) (omega arith) (omega arith)
    (arity_small r, both_small (encode_expr a) (encode_expr b) (omega arith) (expr_small p) (expr_small q))
expr_small (t_apply3 {f = f} {a = a} {b = b} {c = c} r p q t) n =
    field_small 18 (f ∷ (encode_expr a ++ (encode_expr b ++ encode_expr c))) (omega arith) (omega arith) (
      arity_small r,
      both_small (encode_expr a) (encode_expr b ++ encode_expr c) (omega arith) (expr_small p)
          (λ m. both_small (encode_expr b) (encode_expr c) m (expr_small q) (expr_small t)),
    )

phase_small : (φ : Phase) → encode_phase φ < 256
phase_small immediate = omega arith
phase_small later = omega arith

tag_small : (x : Item) → tag_of x < 256
tag_small (formula x) = omega arith
tag_small (state s hs) = omega arith
tag_small (row c s hs) = omega arith

viewer_small : (m : Option ℕ) → ByteFits m → Small (encode_viewer m)
viewer_small none h = tt
viewer_small (some m) h = field_small 8 (m ∷ []) (omega arith) (omega arith) (h, tt)

sender_small : (m : Option ℕ) → ByteFits m → Small (encode_sender m)
sender_small none h = tt
sender_small (some m) h = (h, tt)

sender_short : (m : Option ℕ) → length (encode_sender m) ≤ 1
sender_short none = omega arith
sender_short (some m) = omega arith

events_small : (rs : List Signal) → All SignalFits rs → length (encode_events rs) ≤ 8192 → Small (encode_events rs)
unfolding encode_events
events_small [] f n = tt
events_small (r ∷ rs) f n =
    both_small (encode_event r) (encode_events rs) n
    (λ m. field_small 1 (r.priority ∷ encode_sender r.sender) (omega arith) (omega (arith, sender_short r.sender))
    (omega (arith, f.0.0), sender_small r.sender f.0.1)) (events_small rs f.1)

-- of n declared events
module _ (n : ℕ) (few : n ≤ 32) where
  handlers_small : (hs : List Clause) → ClausesFit n hs → length (encode_handlers hs) ≤ 8192 → Small (encode_handlers hs)
  unfolding encode_handlers
  handlers_small [] f k = tt
  handlers_small (clause e φ x ∷ hs) f k =
      both_small (encode_handler (clause e φ x)) (encode_handlers hs) k
      (λ m. field_small 5 (e ∷ encode_phase φ ∷ encode_expr x) (omega arith) (omega arith)
      (omega (arith, f.0), (phase_small φ, expr_small f.1 (omega arith)))) (handlers_small hs f.3)

  active_small : (s : ℕ) (hs : List Clause) → s < 2 ^ 32 → ClausesFit n hs → length (field 4 (word s) ++ encode_handlers hs) ≤ 8192
      → Small (field 4 (word s) ++ encode_handlers hs)
  active_small s hs h f k =
      both_small (field 4 (word s)) (encode_handlers hs) k (λ m. field_small 4 (word s) (omega arith) (omega arith) (word_small s h)) (handlers_small hs f)

  item_small : (x : Item) → ItemFits n x → length (encode_item x) ≤ 8192 → Small (encode_item x)
  item_small (formula x) f k = expr_small f k
  item_small (state s hs) f k = active_small s hs f.0 f.1 k
  item_small (row c s hs) f k = (omega (arith, f.1), active_small s hs f.2 f.3 (omega arith))

  behaviours_small : (bs : List Entry) → All (EntryFits n) bs → length (encode_behaviours bs) ≤ 8192 → Small (encode_behaviours bs)
  unfolding encode_behaviours
  behaviours_small [] f k = tt
  behaviours_small (b ∷ bs) f k =
      both_small (encode_behaviour b) (encode_behaviours bs) k
      (λ m. field_small (tag_of b.item) (encode_item b.item ++ encode_viewer b.viewer) (tag_small b.item) (omega arith)
      (both_small (encode_item b.item) (encode_viewer b.viewer) (omega arith) (item_small b.item f.0.0) (λ _. viewer_small b.viewer f.0.1)))
      (behaviours_small bs f.1)

pub encode_small : (x : Sheet) → SheetFits x → All (λ b. b < 256) (encode x)
unfolding encode
encode_small x f =
    both_small (encode_events x.signals) (encode_behaviours x.entries) f.few_bytes (events_small x.signals f.scale)
    (behaviours_small (length x.signals) f.few_events x.entries f.each)
