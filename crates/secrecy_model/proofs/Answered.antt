-- A board reading is answered alike by two engines of the same control whose stores agree on what the player sees. To
-- the host nothing is hidden: both programs are one.
use Rattle.lib_base.proofs.Prelude.{ℕ, ◌<◌, ◌≡◌, refl, ◌∙◌, ap, true, false, [], get_or, ext_get_or, leb, leb-false, arith}
use Rattle.lib_base.specs.Basics.{pick}
use Rattle.lib_base.proofs.Tools.{by_two}
use Rattle.spec_language.specs.Syntax.{Behaviour, passive, active, Program}
use Rattle.spec_language.specs.Rights.{may, may_see}
use Rattle.spec_language.specs.Dependence.{size, behaviour_at}
use Rattle.spec_language.specs.Valid.{Accepted, Valid}
use Rattle.spec_language.specs.Refusals as refusals
use Rattle.spec_semantics.specs.Meaning.{at}
use Rattle.spec_model.specs.Model.{rest, busy, Engine, engine, board, Answer, refused, shows, in_copy_back, act}
use Rattle.spec_model.specs.Claims.{store_of, copy_back_in}
use Rattle.spec_model.proofs.States.{Idle}
use Rattle.spec_model.proofs.Once.{idle_empty}
use Rattle.secrecy_model.proofs.Programs.{BehaviourAlike, Alike}
use Rattle.secrecy_model.proofs.Control.{control, copy_back_both}

-- an idle engine copies nothing back
pub idle_no_copy_back : (p : Program) (w : Engine) → Idle p w → copy_back_in p w ≡ false
idle_no_copy_back p (engine t waiting rest d) h = refl
idle_no_copy_back p (engine t waiting (busy a c) d) h = let z : ◌≡◌ {A = ℕ} 1 0 = cc (idle_empty p (engine t waiting (busy a c) d) h) in absurd (omega arith)

-- ---- a board reading of the player's

module _ (player : ℕ) (p q : Program) (alike : Alike player p q) where
  pub read_agree : (i : ℕ) (w x : Engine) → control w ≡ control x
      → (copy_back_in p w ≡ false → i < size p → may_see p player i ≡ true → at (store_of w) i ≡ at (store_of x) i)
      → (act p (board i player) w).answer ≡ (act q (board i player) x).answer
  unfolding act
  read_agree i (engine t waiting r d) (engine n l o f) h k =
      let s : in_copy_back p r ≡ in_copy_back q o = copy_back_both player p q alike (engine t waiting r d) (engine n l o f) h in
      by_two (λ (a b : Answer). a ≡ b) (leb 8 player) (λ z. refl)
      (λ z. by_two (λ (a b : Answer). a ≡ b) (leb (size p) i) (λ c. refl)
      (λ c. by_two (λ (a b : Answer). a ≡ b) (may_see p player i)
      (λ m. by_two (λ (a b : Answer). a ≡ b) (in_copy_back p r) (λ g. refl) (λ g. ap shows (k g (leb-false (size p) i c) m)))
      (λ m. refl)))
      ∙ (λ z.
      pick (leb 8 player) (refused refusals.no_player)
      (pick (leb (alike.sizes z) i) (refused refusals.no_behaviour)
      (pick (may (get_or (alike.viewers z) i 0) player)
      (pick (s z) (refused refusals.settling) (shows (at f.store i)))
      (refused refusals.no_right))))

-- ---- the host sees every behaviour

behaviour_equal : (b c : Behaviour) → BehaviourAlike true b c → b ≡ c
behaviour_equal (passive x) (passive y) h = ap passive h
behaviour_equal (passive x) (active t hs) h = absurd h
behaviour_equal (active s hs) (passive y) h = absurd h
behaviour_equal (active s hs) (active t gs) h = λ z. active (h.0 refl z) (h.1 z)

pub host_same : (p q : Program) → Alike 0 p q → p ≡ q
host_same p q alike =
    let same : p.behaviours ≡ q.behaviours =
    ext_get_or (active 0 []) p.behaviours q.behaviours alike.sizes (λ i h. behaviour_equal (behaviour_at p i) (behaviour_at q i) (alike.each i)) in
    λ z. record { priorities = alike.priorities z; senders = alike.senders z; behaviours = same z; viewers = alike.viewers z }

pub valid : (p : Program) → Accepted p → Valid p
valid p a = record { each = a.fits.each; known = a.known; acyclic = a.acyclic }
