-- What the rights that a sheet says come to, for each player. 02, M-107: "(bit n for player n)", "Where either is
-- missing, everybody may.", "The host may do everything". By computing at each of eight players, and by induction on
-- the events.
use Rattle.lib_base.proofs.Prelude.{ℕ, ◌<◌, suc, zero, ◌≡◌, refl, true, some, none, List, [], ◌∷◌, length, get_or, arith}
use Rattle.spec_language.specs.Sheet.{Signal, Sheet, allowed, senders_of, fill}
use Rattle.spec_language.specs.Rights.{may, may_send, may_see}
use Rattle.spec_language.specs.Reading.{signal}
use Rattle.spec_language.specs.Syntax.{Program}

-- ---- one byte

-- "Where either is missing, everybody may."
pub everybody : (who : ℕ) → who < 8 → may (allowed none) who ≡ true
everybody zero h = refl
everybody (suc zero) h = refl
everybody (suc (suc zero)) h = refl
everybody (suc (suc (suc zero))) h = refl
everybody (suc (suc (suc (suc zero)))) h = refl
everybody (suc (suc (suc (suc (suc zero))))) h = refl
everybody (suc (suc (suc (suc (suc (suc zero)))))) h = refl
everybody (suc (suc (suc (suc (suc (suc (suc zero))))))) h = refl
everybody (suc (suc (suc (suc (suc (suc (suc (suc who)))))))) h = absurd (omega arith)

-- "The host may do everything"
pub host_sends : (p : Program) (e : ℕ) → may_send p 0 e ≡ true
host_sends p e = refl

pub host_sees : (p : Program) (i : ℕ) → may_see p 0 i ≡ true
host_sees p i = refl

-- ---- an event of a sheet, whatever its parameters are

sender_at_law : (l : List Signal) (e : ℕ) → e < length l → get_or (senders_of l) e 0 ≡ allowed (get_or l e (signal 0 none)).sender
sender_at_law [] e h = absurd (omega arith)
sender_at_law (x ∷ l) zero h = refl
sender_at_law (x ∷ l) (suc e) h = sender_at_law l e (omega arith)

module _ (v : ℕ → ℕ) (s : Sheet) (e : ℕ) (declared : e < length s.signals) where
  abbrev event : Signal
  event = get_or s.signals e (signal 0 none)

  -- its second byte says who may send it
  pub said : (m : ℕ) → event.sender ≡ some m → (who : ℕ) → may_send (fill v s) who e ≡ may m who
  said m q who = rw (sender_at_law s.signals e declared, q)

  -- and where it is missing everybody may
  pub unsaid : event.sender ≡ none → (who : ℕ) → who < 8 → may_send (fill v s) who e ≡ true
  unsaid q who h = rw (sender_at_law s.signals e declared, q) (everybody who h)
