-- The answer of `leak` as a number, by computation: 30, the behaviour that is seen times 256 and the hidden one that it
-- names times 65,536, as engine.h takes it apart; of a sheet that declares no event, where a passive follows a hidden
-- behaviour; and 24 for player 8.
use Rattle.lib_base.proofs.Prelude.{ℕ, ◌≡◌, refl, List, [], ◌∷◌}
use Rattle.spec_language.specs.Syntax.{name, passive, active, Program}
use Rattle.spec_language.specs.Dependence.{handled, mentions}
use Rattle.spec_language.specs.Reading.{read_sheet}
use Rattle.back_compile.specs.Number.{number_on}
use Rattle.check_graph.specs.Any.{any_below}
use Rattle.check_reads.specs.First.{first_from}
use Rattle.ask_leak.specs.Answer.{packed_leak}
use Rattle.ask_leak.specs.Leaking.{leak_at, leak_from, leak_by}
use Rattle.ask_leak.specs.Leak.{behaviour_names, leak_in, leak_read, leak_on}

pub behaviour_1_names_2 : packed_leak 1 2 ≡ 131358
unfolding packed_leak
behaviour_1_names_2 = refl

-- everybody sees b0, which is passive b1; b1 is the host's and player 2's: 30 + 65,536, and 0 for player 2
abbrev hidden_b1 : Program
hidden_b1 = record { priorities = []; senders = []; behaviours = passive (name 1) ∷ active 0 [] ∷ []; viewers = 255 ∷ 4 ∷ [] }

pub under_no_event : (leak_in hidden_b1 1 ≡ 65566) × (leak_in hidden_b1 2 ≡ 0)
unfolding handled mentions any_below first_from behaviour_names packed_leak leak_at leak_from leak_by
under_no_event = (refl, refl)

pub players : (s ps : List ℕ) → number_on s ps ≡ 0 → ((leak_on s ps 7 ≡ leak_read (read_sheet s) ps 7) × (leak_on s ps 8 ≡ 24))
unfolding leak_on
players s ps h = (rw h, rw h)
