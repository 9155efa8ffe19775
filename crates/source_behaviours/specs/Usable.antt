-- What is asked of the places from which behaviours are read, with the slices beside them.
use Rattle.std.specs.Prelude.{ℕ, ◌*◌, ◌≤◌, ◌<◌, ◌≡◌, List, length}
use Rattle.lib_base.specs.Basics.{All}
use Rattle.spec_language.specs.Limits.{behaviour_limit, event_limit, parameter_limit, sheet_bytes}
use Rattle.source_coding.specs.Bounds.{first_cells, growth, name_limit, text_bytes}
use Rattle.source_names.specs.Units.{meaning_limit}
use Rattle.source_behaviours.specs.declared.Heading.{Heading}
use Rattle.source_behaviours.specs.declared.Begun.{Begun}

-- one behaviour
abbrev pub HeadingUsable : List ℕ → Heading → List ℕ → List ℕ → List ℕ → List ℕ → List ℕ → Type 0
HeadingUsable text h names places meanings events out =
    (length text ≤ text_bytes) × ((h.at ≤ length text) × ((h.place ≤ h.at) × ((h.cells ≤ behaviour_limit) × ((h.count ≤ length names)
    × ((h.end ≤ h.at * growth) × ((h.sorted ≤ length places) × (All (λ m. m < meaning_limit) meanings
    × ((length events ≤ event_limit) × (length out ≤ sheet_bytes)))))))))

-- all of them
abbrev pub BegunUsable : List ℕ → Begun → List ℕ → List ℕ → List ℕ → List ℕ → List ℕ → Type 0
BegunUsable text b places meanings names starts out =
    (length text ≤ text_bytes) × ((b.at ≤ length text) × ((b.end ≤ b.at * growth) × ((b.sorted ≤ length places) × (All (λ m. m < meaning_limit) meanings
    × (((b.known ≤ event_limit) × (length b.events ≡ event_limit)) × ((length names ≡ name_limit) × ((b.taken ≤ parameter_limit)
    × (((length starts ≡ first_cells) × All (λ i. i ≤ behaviour_limit) starts) × (length out ≤ sheet_bytes)))))))))
