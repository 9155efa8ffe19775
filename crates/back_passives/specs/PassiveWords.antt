-- The table's words on passives, from the draft (crate draft_form): which behaviours are passives, and where the
-- instructions that work them out begin and how many they are. 02, M-112. They are those of event 0's second time over
-- the passives, which stand before its copy-back; where no event is declared its number is that of no event, and they
-- stand alone.
use Rattle.std.specs.Prelude.{ℕ, ◌+◌, ◌-◌, List, [], ◌∷◌, ◌++◌, eqb}
use Rattle.lib_base.specs.Basics.{pick}
use Rattle.format_image.specs.Table.{padded}
use Rattle.draft_form.specs.Draft.{entry_of}
use Rattle.draft_form.specs.Entry.{entry_kind, entry_count}
use Rattle.back_counts.specs.Counts.{total, count_event, count_members}
use Rattle.back_emit.specs.Words.{each}

-- 1 for a passive
unfoldable pub kind_word : List ℕ → ℕ → List ℕ
kind_word d i = pick (eqb (entry_kind (entry_of d 0 i)) 1) 1 0 ∷ []

-- what an entry adds to their instructions
unfoldable pub again_share : ℕ → ℕ
again_share v = pick (eqb (entry_kind v) 1) (entry_count v + 1) 0

unfoldable pub count_again : List ℕ → ℕ → ℕ
count_again d n = total n (λ i. again_share (entry_of d 0 i))

-- where they begin: ev events are declared; event 0 has `all` instructions, `count` of them these, and copies m
-- behaviours back
unfoldable pub again_start : ℕ → ℕ → ℕ → ℕ → ℕ
again_start ev all m count = pick (eqb ev 0) 0 (all - (count + (m + 2)))

-- of ev events and bs behaviours
unfoldable pub stretch_words : List ℕ → ℕ → ℕ → List ℕ
stretch_words d ev bs = again_start ev (count_event d 0 bs) (count_members d 0 bs) (count_again d bs) ∷ count_again d bs ∷ []

unfoldable pub draft_passive_words : List ℕ → ℕ → ℕ → List ℕ
draft_passive_words d ev bs = padded 64 (each bs (kind_word d)) ++ padded 152 (stretch_words d ev bs)
