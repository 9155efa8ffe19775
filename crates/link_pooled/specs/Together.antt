-- The program of two programs side by side, and the events that one of them declares. 02, M-111: "After the same
-- commits, each half of the joined board equals that sheet's own board, events that it doesn't declare being passed
-- over."
use Rattle.std.specs.Prelude.{ℕ, ◌+◌, List, ◌++◌, map}
use Rattle.std.specs.Int.Bits.{bit_and}
use Rattle.spec_language.specs.Syntax.{Expr, con, name, app1, app2, app3, Handler, handler, Behaviour, passive, active, Program}
use Rattle.spec_language.specs.Dependence.{size}
use Rattle.link_pooled.specs.Pooled.{merged_by_number}

-- names moved up by n
module _ (n : ℕ) where
  unfoldable pub move_expr : Expr → Expr
  move_expr (con w) = con w
  move_expr (name i) = name (n + i)
  move_expr (app1 f a) = app1 f (move_expr a)
  move_expr (app2 f a b) = app2 f (move_expr a) (move_expr b)
  move_expr (app3 f a b c) = app3 f (move_expr a) (move_expr b) (move_expr c)

  abbrev pub move_handler : Handler → Handler
  move_handler (handler e φ x) = handler e φ (move_expr x)

  unfoldable pub move_handlers : List Handler → List Handler
  move_handlers = map move_handler

  abbrev pub move_behaviour : Behaviour → Behaviour
  move_behaviour (passive x) = passive (move_expr x)
  move_behaviour (active s hs) = active s (move_handlers hs)

abbrev pub together : Program → Program → Program
together p q = record {
  priorities = merged_by_number (λ a b. a) p.priorities q.priorities;
  senders = merged_by_number bit_and p.senders q.senders;
  behaviours = p.behaviours ++ map (move_behaviour (size p)) q.behaviours;
  viewers = p.viewers ++ q.viewers;
}
