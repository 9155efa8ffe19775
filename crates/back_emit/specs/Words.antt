-- The words of one behaviour's instructions on an event, from the draft (crate draft_form), as the compiler writes
-- them. An instruction is two words: operation * 256 + slot, and a constant (crate format_image). 01 "Handlers and
-- steps".
use Rattle.std.specs.Prelude.{ℕ, zero, suc, ◌+◌, ◌%◌, List, [], ◌∷◌, ◌++◌, get_or, eqb}
use Rattle.lib_base.specs.Basics.{pick}
use Rattle.draft_form.specs.Draft.{entry_of, moved}
use Rattle.draft_form.specs.Entry.{entry_kind, entry_start, entry_count, node_tag, node_word}

-- f of each number below n, one after the other
unfoldable pub each : ℕ → (ℕ → List ℕ) → List ℕ
each zero f = []
each (suc n) f = each n f ++ f n

-- a name: what the event copies is fetched from scratch, the rest is loaded from the store
unfoldable pub name_words : List ℕ → ℕ → ℕ → List ℕ
name_words d e j = pick (eqb (entry_of d e j) 0) ((1536 + j) ∷ 0 ∷ []) ((1792 + j) ∷ 0 ∷ [])

-- a node: push, a name, or apply
unfoldable pub node_words : List ℕ → ℕ → ℕ → List ℕ
node_words d e x =
    pick (eqb (node_tag x) 16) (1280 ∷ node_word x ∷ [])
    (pick (eqb (node_tag x) 17) (name_words d e (node_word x % 64)) ((2048 + node_word x % 16) ∷ 0 ∷ []))

-- behaviour i's expression of count nodes from start on, as it uses them
unfoldable pub expr_words : List ℕ → ℕ → ℕ → ℕ → ℕ → List ℕ
expr_words d e i start count = each count (λ j. node_words d e (moved d i (get_or d (start + j) 0)))

-- the expression of behaviour i, and then op i
unfoldable pub turn_words : List ℕ → ℕ → ℕ → ℕ → List ℕ
turn_words d e op i = expr_words d e i (entry_start (entry_of d e i)) (entry_count (entry_of d e i)) ++ ((op + i) ∷ 0 ∷ [])

-- the same, if its entry is of this kind
unfoldable pub turn_words_of_kind : List ℕ → ℕ → ℕ → ℕ → ℕ → List ℕ
turn_words_of_kind d e kind op i = pick (eqb (entry_kind (entry_of d e i)) kind) (turn_words d e op i) []

-- the move of a later handler's value
unfoldable pub move_words : List ℕ → ℕ → ℕ → List ℕ
move_words d e i = pick (eqb (entry_kind (entry_of d e i)) 3) ((2816 + i) ∷ 0 ∷ []) []

-- op i, if the event copies i
unfoldable pub member_words : List ℕ → ℕ → ℕ → ℕ → List ℕ
member_words d e op i = pick (eqb (entry_of d e i) 0) [] ((op + i) ∷ 0 ∷ [])
