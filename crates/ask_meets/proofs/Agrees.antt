-- The sets that the code gathers on a draft are those of its program: an entry's nodes are those of the expression, and
-- the rows lead where passives do.
use Rattle.lib_base.proofs.Prelude.{ℕ, ◌≤◌, ◌<◌, ◌≡◌, refl, ◌∙◌, ap, true, false, Bool, ◌||◌, false≢true, ◌&&◌, List}
use Rattle.lib_base.proofs.Prelude.{length, get_or, take, drop, eqb, arith}
use Rattle.lib_bits.specs.Bits.{bit}
use Rattle.spec_language.specs.Syntax.{Expr, Program}
use Rattle.spec_language.specs.Dependence.{Response, follows, takes, defers, keeps, size, events, response, written, writes}
use Rattle.spec_language.specs.Fits.{Fits, Nested}
use Rattle.spec_language.specs.Accepted.{NamesIn, Known}
use Rattle.spec_language.proofs.Laws.{ResponseNested, response_nested, ResponseNamesIn, response_names}
use Rattle.draft_form.specs.Draft.{draft_length, nodes, entry_of, used_by, Drafted}
use Rattle.draft_form.specs.Entry.{entry_start, entry_count}
use Rattle.draft_form.proofs.DraftLaws.{Holds, Entry, entry_of_law, length_used}
use Rattle.check_graph.proofs.Any.{any_same}
use Rattle.check_reads.specs.Sets.{names_on, writes_on, passive_on, closed_by, RowsBy}
use Rattle.check_reads.specs.Named.{through_passives}
use Rattle.check_reads.specs.InResponse.{in_response}
use Rattle.check_reads.proofs.Agrees.{names_are, writes_are, chains_are, closed_same}
use Rattle.ask_leak.specs.Leaking.{names_any}
use Rattle.ask_leak.specs.Leak.{behaviour_names}
use Rattle.ask_leak.proofs.LeakLaws.{any_are}
use Rattle.ask_meets.specs.Marks.{mark_of, adds_by, adds_of, marks_packed}
use Rattle.ask_meets.specs.Meeting.{in_cone, refers_at, strict_at, strict_in}
use Rattle.ask_meets.specs.Strict.{cone_on, mark_in, adds_on, refers_on, strict_at_on, strict_on}
use Rattle.ask_meets.proofs.NodeMarks.{over_nodes, expr_mark, alone_is}

module _ (p : Program) (d : List ℕ) (nodes_of : ℕ) (f : Fits p) (dr : Drafted p d nodes_of) (known : Known p) where
  -- ---- the cone

  pub cone_are : (b j : ℕ) → b < size p → j < size p → cone_on d (events p) (size p) b j ≡ in_cone p b j
  unfolding cone_on in_cone
  cone_are b j h k =
      ap (λ (x : Bool). x || eqb j b)
      (closed_same (size p) (names_any d (events p)) (behaviour_names p) (λ x y c e. any_are p d nodes_of f dr 0 x y c) (size p) b j h k (omega arith))

  -- ---- with rows that lead where passives do

  module _ (rows : List ℕ) (by : RowsBy (closed_by (size p) (passive_on d (events p))) (size p) rows) where
    leads_are : (k j : ℕ) → k < size p → j < size p → bit (get_or rows k 0) j ≡ through_passives p k j
    leads_are k j h c = by k h j c ∙ chains_are p d nodes_of f dr k j h c

    long : (i : ℕ) → length (used_by d i) ≡ draft_length
    long i = length_used d i ∙ dr.long

    held : (i v kind : ℕ) (x : Expr) → i < size p → Holds (used_by d i) kind v x → Nested 16 x → NamesIn (size p) x → mark_in d rows i v ≡ mark_of p i x
    unfolding mark_in
    held i v kind x b e h m =
        let c : take (entry_count v) (drop (entry_start v) (used_by d i)) ≡ nodes x = rw e.count_is e.there in
        ap marks_packed (over_nodes (λ k. bit (get_or rows k 0) i) i (used_by d i) (entry_start v) (entry_count v) (omega (arith, e.inside, long i)))
        ∙ rw c (ap marks_packed (expr_mark p (size p) (λ k. bit (get_or rows k 0) i) i (λ j a. leads_are j i a b) x h m) ∙ alone_is (mark_of p i x))

    entry_adds : (i v : ℕ) (r : Response) → i < size p → Entry (used_by d i) v r → ResponseNested r → ResponseNamesIn (size p) r → written r ≡ true
        → eqb (mark_in d rows i v) 3 ≡ adds_by p i r
    entry_adds i v (follows x) b e h m w = absurd (false≢true w)
    entry_adds i v (takes x) b e h m w = rw (held i v 2 x b e h m)
    entry_adds i v (defers x) b e h m w = rw (held i v 3 x b e h m)
    entry_adds i v keeps b e h m w = absurd (false≢true w)

    adds_are : (e i : ℕ) → e ≤ 32 → i < size p → writes p e i ≡ true → adds_on d rows e i ≡ adds_of p e i
    unfolding adds_on adds_of
    adds_are e i h b w =
        entry_adds i (entry_of d e i) (response p e i) b (entry_of_law p d nodes_of dr e i h b) (response_nested p f.each e i) (response_names p known e i) w

    refers_are : (e i j : ℕ) → e ≤ 32 → i < size p → j < size p → refers_on d rows (size p) e i j ≡ refers_at p e i j
    unfolding refers_on refers_at
    refers_are e i j h b c =
        rw (names_are p d nodes_of f dr e i j h b)
        (ap (λ (x : Bool). in_response j (response p e i) || x)
        (any_same (size p) (λ k. names_on d e i k && bit (get_or rows k 0) j) (λ k. in_response k (response p e i) && through_passives p k j)
        (λ k a. rw (names_are p d nodes_of f dr e i k h b, leads_are k j a c))))

    strict_at_are : (e i j : ℕ) → e ≤ 32 → i < size p → j < size p → writes p e i ≡ true → strict_at_on d rows (size p) e i j ≡ strict_at p e i j
    unfolding strict_at_on strict_at
    strict_at_are e i j h b c w = rw (adds_are e i h b w, refers_are e i j h b c)

    guarded : (a b x y : Bool) → (b ≡ true → x ≡ y) → (a && b) && x ≡ (a && b) && y
    guarded true true x y h = h refl
    guarded true false x y h = refl
    guarded false b x y h = refl

    pub strict_are : (set e j : ℕ) → e ≤ 32 → j < size p → strict_on d rows (size p) set e j ≡ strict_in p (bit set) e j
    unfolding strict_on strict_in
    strict_are set e j h c =
        any_same (size p) (λ i. (bit set i && writes_on d e i) && strict_at_on d rows (size p) e i j) (λ i. (bit set i && writes p e i) && strict_at p e i j)
        (λ i b. rw (writes_are p d nodes_of f dr e i h b) (guarded (bit set i) (writes p e i) _ _ (λ w. strict_at_are e i j h b c w)))
