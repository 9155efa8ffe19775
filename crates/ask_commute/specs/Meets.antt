-- Where two events meet, as far as one behaviour goes: in the sheet filled and with its rows written out. "let D be
-- what the behaviour depends on (by a name in its expression or in a handler of either phase, directly or by a chain;
-- itself included)"; here D is any set of behaviours, and `Cone` is that of one behaviour.
use Rattle.std.specs.Prelude.{ℕ, ◌<◌, true, ◌≡◌, ◌≢◌, ◌⊎◌, get_or}
use Rattle.spec_language.specs.Syntax.{Expr, name, app2, app3, passive, Program}
use Rattle.spec_language.specs.Dependence.{Response, follows, takes, defers, keeps, events, behaviour_at, response, mentions, Reach, writes}
use Rattle.secrecy_model.specs.Sight.{names}
use Rattle.check_reads.specs.InResponse.{in_response}

-- the cone of influence of behaviour b (D): what it depends on, itself included
abbrev pub Cone : Program → ℕ → ℕ → Type 0
Cone p b j = (j ≡ b) ⊎ Reach (names p) b j

-- "directly or through passives": j is k itself, or k is a passive that names one through which j is named
pub data Via (p : Program) : ℕ → ℕ → Type 0 where
  itself : {j : ℕ} → Via p j j
  passing : {k i j : ℕ} {x : Expr} → behaviour_at p k ≡ passive x → mentions i x ≡ true → Via p i j → Via p k j

-- an expression names j, directly or through passives
abbrev pub Refers : Program → Expr → ℕ → Type 0
Refers p x j = (k : ℕ) × (mentions k x ≡ true) × Via p k j

-- event e reads j in its handler of i, directly or through passives
abbrev pub ReadsAt : Program → ℕ → ℕ → ℕ → Type 0
ReadsAt p e i j = (writes p e i ≡ true) × ((k : ℕ) × (in_response k (response p e i) ≡ true) × Via p k j)

-- "A handler of b adds if its expression is b; or e1 + e2 or e1 - e2 where e1 adds and e2 does not name b; or e1 + e2
-- where e2 adds and e1 does not name b; or if(c, e1, e2) where both add and c does not name b; "name" directly or
-- through passives."
pub data Adds (p : Program) (b : ℕ) : Expr → Type 0 where
  bare : Adds p b (name b)
  plus : {x y : Expr} → Adds p b x → (Refers p y b → ⊥) → Adds p b (app2 4 x y)
  minus : {x y : Expr} → Adds p b x → (Refers p y b → ⊥) → Adds p b (app2 5 x y)
  added_to : {x y : Expr} → (Refers p x b → ⊥) → Adds p b y → Adds p b (app2 4 x y)
  either_way : {c x y : Expr} → (Refers p c b → ⊥) → Adds p b x → Adds p b y → Adds p b (app3 14 c x y)

abbrev pub AddsIn : Program → ℕ → Response → Type 0
AddsIn p b (follows x) = ⊥
AddsIn p b (takes x) = Adds p b x
AddsIn p b (defers x) = Adds p b x
AddsIn p b keeps = ⊥

-- event e has a handler of b, and it adds
abbrev pub AddsTo : Program → ℕ → ℕ → Type 0
AddsTo p e b = AddsIn p b (response p e b)

-- in a set of behaviours
module _ (p : Program) (D : ℕ → Type 0) where
  -- event e reads j in a handler of one of D; in another than that of j
  abbrev pub ReadsIn : ℕ → ℕ → Type 0
  ReadsIn e j = (i : ℕ) × D i × ReadsAt p e i j

  abbrev pub ReadsElsewhere : ℕ → ℕ → Type 0
  ReadsElsewhere e j = (i : ℕ) × D i × (i ≢ j) × ReadsAt p e i j

  -- "where one writes b and the other writes b, or reads b in a handler of one of D"
  pub data SharedIn (e f b : ℕ) : Type 0 where
    two_write : writes p e b ≡ true → writes p f b ≡ true → SharedIn e f b
    one_writes : writes p e b ≡ true → ReadsIn f b → SharedIn e f b
    other_writes : writes p f b ≡ true → ReadsIn e b → SharedIn e f b

  -- "where both handlers of b add to it, and neither event reads b in another handler of one of D"
  pub record OnlyAdd (e f b : ℕ) : Type 0 where
    pub one : AddsTo p e b
    pub other : AddsTo p f b
    pub one_elsewhere : ReadsElsewhere e b → ⊥
    pub other_elsewhere : ReadsElsewhere f b → ⊥

  -- "Two events meet at b of D where .., but where .., they do not meet at b"
  pub record MeetAt (e f b : ℕ) : Type 0 where
    pub inside : D b
    pub shared : SharedIn e f b
    pub not_only_add : OnlyAdd e f b → ⊥

  -- "no two events of unequal rank meet in D"
  abbrev pub NoneMeet : Type 0
  NoneMeet = (e f : ℕ) → e < events p → f < events p → get_or p.priorities e 0 ≢ get_or p.priorities f 0 → (b : ℕ) → MeetAt e f b → ⊥
