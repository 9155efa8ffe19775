-- Worked examples, by computation: a joined sheet of two bytes in a buffer of three, of two and of one. 02, M-111: "to
-- the start of a lent buffer, whose other bytes stay, and returns its length"; "27 when the buffer is too short".
use Rattle.lib_base.proofs.Prelude.{◌≡◌, refl, [], ◌∷◌}
use Rattle.link_join.specs.Joined.{joined}
use Rattle.link_join.specs.Join.{delivered_in}

pub room : (delivered_in (5 ∷ 6 ∷ []) (9 ∷ 8 ∷ 7 ∷ []) ≡ joined 4294967298 (5 ∷ 6 ∷ 7 ∷ [])) × (delivered_in (5 ∷ 6 ∷ []) (9 ∷ 8 ∷ []) ≡ joined 4294967298 (5 ∷ 6 ∷ []))
    × (delivered_in (5 ∷ 6 ∷ []) (9 ∷ []) ≡ joined 27 (9 ∷ []))
unfolding delivered_in
room = (refl, refl, refl)
