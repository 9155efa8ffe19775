-- What a function that writes words into the table needs, and what it has done.
use Rattle.std.specs.Prelude.{ℕ, ◌+◌, ◌≤◌, ◌≡◌, List, length}
use Rattle.std.specs.Borrow.{MutBor}
use Rattle.format_image.specs.Table.{put_words}
use Rattle.back_emit.specs.declared.Emitter.{Emitter}

-- the table's bytes, by the reference to them
abbrev pub Table : Type 0
Table = MutBor (List ℕ)

-- the words ws have room in table t from word k on
pub record Room (t : Table) (k : ℕ) (ws : List ℕ) : Type 0 where
  pub within : k + length ws ≤ 8704
  pub long : 34816 ≤ length t.now

-- the words ws are written into table t from word k on; it is t' then, the same reference, and r the next word
pub record Wrote (t : Table) (k : ℕ) (ws : List ℕ) (t' : Table) (r : ℕ) : Type 0 where
  pub table : t'.now ≡ put_words t.now k ws
  pub next : r ≡ k + length ws
  pub same : t'.ghost_name ≡ t.ghost_name

-- of the table of an emitter, from its next word on
abbrev pub HasRoom : Emitter → List ℕ → Type 0
HasRoom o ws = Room o.table o.place ws

abbrev pub Emits : Emitter → List ℕ → Emitter → Type 0
Emits o ws o' = Wrote o.table o.place ws o'.table o'.place
