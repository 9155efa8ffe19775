-- Each known byte is the whole of its mark, whatever follows; another is told by none.
use Rattle.source_onward.proofs.Stands.{lone_plus, lone_minus, lone_times, lone_slash, lone_closes, lone_none}
use Rattle.source_onward.proofs.lone_mark.Statement.{statement}
use Rattle.source_onward.proofs.lone_mark.Tie as tie

pub lone_mark_spec : {M : Type 1} → statement M
lone_mark_spec =
    tie.close
    (tie.spec (λ c. lone_plus _ c.in-43.is) (λ c. lone_minus _ c.in-45.is)
    (λ c. lone_times _ c.in-42.is) (λ c. lone_slash _ c.in-47.is) (λ c. lone_closes _ c.in-41.is)
    (λ c. lone_none _))
