-- Abstract syntax of a program: what a sheet (Sheet.antt) means. 01 "The sheet"; 003 section 2.
use Rattle.std.specs.Prelude.{ℕ, List}

-- 01 "Expressions": a constant is a 32-bit word, a name is a behaviour's number, an application has its function's
-- number. `!` needs one argument, `if` three, the others two.
pub data Expr : Type 0 where
  con : ℕ → Expr
  name : ℕ → Expr
  app1 : ℕ → Expr → Expr
  app2 : ℕ → Expr → Expr → Expr
  app3 : ℕ → Expr → Expr → Expr → Expr

-- 01: phase byte 0 immediate, 1 later
pub data Phase : Type 0 where
  immediate later : Phase

-- 01 "05 handler": event, phase, expression
pub data Handler : Type 0 where
  handler : ℕ → Phase → Expr → Handler

-- 01 "02 passive", "03 active": the start value of an active is a 32-bit word
pub data Behaviour : Type 0 where
  passive : Expr → Behaviour
  active : ℕ → List Handler → Behaviour

-- the priority (01: rank) of each event, and the behaviours, both numbered from 0; and who may send each event and see
-- each behaviour, one byte each, bit n for player n (02, M-107)
pub record Program : Type 0 where
  pub priorities : List ℕ
  pub senders : List ℕ
  pub behaviours : List Behaviour
  pub viewers : List ℕ
