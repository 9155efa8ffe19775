-- What the compiler may rely on in a draft: its entries taken apart, by the division of a packed entry, and the nodes
-- of its expressions, by induction.
use Rattle.lib_base.proofs.Prelude.{ℕ, ◌≤◌, ◌<◌, ◌+◌, suc, zero, ◌≡◌, refl, ap, List, [], ◌∷◌, map, length, get_or, take}
use Rattle.lib_base.proofs.Prelude.{drop, length-append, length-map, arith}
use lib.ListN.{get_or-map}
use Rattle.spec_language.specs.Syntax.{Expr, con, name, app1, app2, app3, Program}
use Rattle.spec_language.specs.Dependence.{Response, follows, takes, defers, keeps, size, response}
use Rattle.spec_language.specs.Code.{size_of}
use Rattle.draft_form.specs.Draft.{draft_length, nodes, packed_entry, entry_of, place_of, moved, used_by, Stands, EntrySays, Drafted, DraftOf}
use Rattle.draft_form.specs.Entry.{entry_kind, entry_start, entry_count, node_word}

-- ---- entries

pub size_positive : (x : Expr) → 1 ≤ size_of x
unfolding size_of
size_positive (con w) = omega arith
size_positive (name i) = omega arith
size_positive (app1 f a) = omega arith
size_positive (app2 f a b) = omega arith
size_positive (app3 f a b c) = omega arith

-- the entry v of expression x, taken apart
pub record Holds (d : List ℕ) (kind v : ℕ) (x : Expr) : Type 0 where
  pub kind_is : entry_kind v ≡ kind
  pub count_is : entry_count v ≡ size_of x
  pub inside : entry_start v + entry_count v ≤ 2048
  pub there : take (size_of x) (drop (entry_start v) d) ≡ nodes x
  pub some : 0 < v

module _ (kind start count v : ℕ) (k : kind < 4) (b : start + count ≤ 2048) (c : 1 ≤ count) (e : v ≡ packed_entry kind start count) where
  entry_kind_law : entry_kind v ≡ kind
  entry_kind_law = omega arith

  entry_count_law : entry_count v ≡ count
  entry_count_law = omega arith

  entry_start_law : entry_start v ≡ start
  entry_start_law = omega arith

  entry_some : 0 < v
  entry_some = omega arith

stands_holds : (d : List ℕ) (kind v : ℕ) (x : Expr) → kind < 4 → Stands d kind v x → Holds d kind v x
stands_holds d kind v x k s =
    let p = size_positive x in
    let c = entry_count_law kind s.start (size_of x) v k s.within p s.packed in
    let a = entry_start_law kind s.start (size_of x) v k s.within p s.packed in
    record {
      kind_is = entry_kind_law kind s.start (size_of x) v k s.within p s.packed;
      count_is = c;
      inside = rw (a, c) s.within;
      there = rw a s.there;
      some = entry_some kind s.start (size_of x) v k s.within p s.packed;
    }

-- what an entry holds, by what the behaviour does
abbrev pub Entry : List ℕ → ℕ → Response → Type 0
Entry d v (follows x) = Holds d 1 v x
Entry d v (takes x) = Holds d 2 v x
Entry d v (defers x) = Holds d 3 v x
Entry d v keeps = v ≡ 0

pub entry_says : (d : List ℕ) (v : ℕ) (r : Response) → EntrySays d v r → Entry d v r
entry_says d v (follows x) s = stands_holds d 1 v x (omega arith) s
entry_says d v (takes x) s = stands_holds d 2 v x (omega arith) s
entry_says d v (defers x) s = stands_holds d 3 v x (omega arith) s
entry_says d v keeps s = s

entry_bounded : (d : List ℕ) (v : ℕ) (r : Response) → Entry d v r → entry_start v + entry_count v ≤ 2048
entry_bounded d v (follows x) h = h.inside
entry_bounded d v (takes x) h = h.inside
entry_bounded d v (defers x) h = h.inside
entry_bounded d v keeps h = omega arith

module _ (p : Program) (d : List ℕ) (n : ℕ) (dr : Drafted p d n) (e i : ℕ) (b : e ≤ 32) (c : i < size p) where
  pub entry_of_law : Entry (used_by d i) (entry_of d e i) (response p e i)
  entry_of_law = entry_says (used_by d i) (entry_of d e i) (response p e i) (dr.says e i b c)

  pub entry_inside : entry_start (entry_of d e i) + entry_count (entry_of d e i) ≤ 2048
  entry_inside = entry_bounded (used_by d i) (entry_of d e i) (response p e i) entry_of_law

-- ---- nodes

pub length_nodes : (x : Expr) → length (nodes x) ≡ size_of x
unfolding nodes size_of
length_nodes (con w) = refl
length_nodes (name i) = refl
length_nodes (app1 f a) = simp (length-append, length_nodes a)
length_nodes (app2 f a b) = simp (length-append, length_nodes a, length_nodes b) (omega arith)
length_nodes (app3 f a b c) = simp (length-append, length_nodes a, length_nodes b, length_nodes c) (omega arith)

-- ---- nodes as a behaviour uses them

pub length_used : (d : List ℕ) (i : ℕ) → length (used_by d i) ≡ length d
unfolding used_by
length_used d i = length-map d (moved d i)

pub used_at : (d : List ℕ) (i k : ℕ) → get_or (used_by d i) k 0 ≡ moved d i (get_or d k 0)
unfolding used_by moved
used_at d i k = get_or-map (moved d i) d k 0

pub take_used : (d : List ℕ) (i n a : ℕ) → take n (drop a (used_by d i)) ≡ map (moved d i) (take n (drop a d))
unfolding used_by
take_used d i n a = drop_map (moved d i) a d n
  where
    take_map : (f : ℕ → ℕ) (n : ℕ) (l : List ℕ) → take n (map f l) ≡ map f (take n l)
    take_map f zero l = refl
    take_map f (suc n) [] = refl
    take_map f (suc n) (x ∷ l) = ap (λ (m : List ℕ). f x ∷ m) (take_map f n l)

    drop_map : (f : ℕ → ℕ) (a : ℕ) (l : List ℕ) (n : ℕ) → take n (drop a (map f l)) ≡ map f (take n (drop a l))
    drop_map f zero l n = take_map f n l
    drop_map f (suc a) [] n = take_map f n []
    drop_map f (suc a) (x ∷ l) n = drop_map f a l n

-- the draft is read for places alone
pub moved_places : (d d' : List ℕ) (i x : ℕ) → ((j : ℕ) → place_of d' j ≡ place_of d j) → moved d' i x ≡ moved d i x
unfolding moved
moved_places d d' i x h = rw (h (node_word x), h i)

-- ---- plain bounds

module _ {ev bs n : ℕ} {d : List ℕ} (dr : DraftOf ev bs n d) where
  pub draft_long : length d ≡ draft_length
  draft_long = dr.drafted.long

  pub draft_events : ev ≤ 32
  draft_events = omega (arith, dr.events_are, dr.fits.few_events)

  pub draft_behaviours : bs ≤ 64
  draft_behaviours = omega (arith, dr.size_is, dr.fits.few_behaviours)

  pub bounded : (e i : ℕ) → e ≤ 32 → i < bs → entry_start (entry_of d e i) + entry_count (entry_of d e i) ≤ 2048
  bounded e i b c = entry_inside dr.program d n dr.drafted e i b (omega (arith, dr.size_is))
