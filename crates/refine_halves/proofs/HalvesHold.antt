-- The joined round is the two rounds side by side: join's answer names the pooled sheet, demand 3's theorem gives the
-- three boards by the rules, and the rules lead to the two boards in a row (crate link_join).
use Rattle.lib_base.proofs.Prelude.{ℕ, ◌<◌, ◌+◌, ◌≡◌, ◌∙◌, sym, ap, subst, true, inr, inl, List, [], ◌∷◌, ◌++◌, map}
use Rattle.lib_base.proofs.Prelude.{length, get_or, take, drop, take-append_seam, arith}
use mathlib.Core.Path.{ap₂}
use lib.Seq.{drop-append_seam}
use Rattle.lib_base.specs.Basics.{All}
use Rattle.lib_word.specs.Word.{get}
use Rattle.spec_language.specs.Syntax.{Program}
use Rattle.spec_language.specs.Sheet.{Sheet}
use Rattle.spec_language.specs.Grammar.{encode}
use Rattle.spec_language.specs.Dependence.{size}
use Rattle.spec_language.specs.Accepted.{SheetAccepted}
use Rattle.spec_language.specs.Valid.{Accepted}
use Rattle.spec_language.specs.Rights.{may_send, may_see}
use Rattle.spec_grammar.proofs.Programs.{reads_back}
use Rattle.spec_semantics.specs.Meaning.{fresh}
use Rattle.spec_semantics.specs.Plays.{Plays, done as played, next as plays}
use Rattle.spec_semantics.proofs.Lengths.{length_fresh}
use Rattle.spec_model.specs.Model.{Call, call}
use Rattle.spec_model.specs.Claims.{committed_in, events_of}
use Rattle.back_compile.specs.Verdict.{compile_on}
use Rattle.back_compile.specs.Compiled.{Compiled, program_of}
use Rattle.back_compile.proofs.AcceptedExactly.{accepted_taken}
use Rattle.link_pooled.specs.Pooled.{pooled, same_ranks}
use Rattle.link_pooled.specs.Together.{together}
use Rattle.link_pooled.specs.Declared.{declared}
use Rattle.link_pooled.proofs.Filled.{fill_pooled}
use Rattle.link_pooled.proofs.Rights.{send_both, send_first, send_second, see_first, see_second, rank_first, rank_second}
use Rattle.link_join.specs.Join.{join_on}
use Rattle.link_join.specs.Joined.{Joined, joined}
use Rattle.link_join.specs.Statements.{JoinOrder}
use Rattle.link_join.proofs.JoinLaws.{AcceptedSheet}
use Rattle.link_join.proofs.Says.{Answered, join_says, rules_board}
use Rattle.refine_calls.specs.Refinement.{calls, Bytes, bytes, bytes_after}
use Rattle.refine_lists.specs.Lists.{board_of, fresh_round_on, OnlyCalls, Prepared}
use Rattle.refine_lists.proofs.Sheets.{program_accepted}
use Rattle.refine_lists.proofs.FromSheets.{calls_of_law}
use Rattle.refine_lists.proofs.OnlyCallsHold.{known}
use Rattle.refine_halves.specs.HalfBoards.{board_after, SameCommits, NoCopyBack, Halves, HalfBoards}

-- ---- a sheet that is accepted, whatever its bytes are written from

module _ (ps : List ℕ) (x : Sheet) (ok : SheetAccepted (get ps) (length ps) x) where
  as_read : (s : List ℕ) → encode x ≡ s → AcceptedSheet s ps
  as_read s e = record { sheet = x; bytes = e; accepted = ok; read = rw e at (reads_back x ok.fits) }

-- ---- what join's answer says

record Delivered (ps v : List ℕ) (x y : Sheet) : Type 0 where
  same : same_ranks x.signals y.signals ≡ true
  accepted : SheetAccepted (get ps) (length ps) (pooled x y)
  bytes : encode (pooled x y) ≡ v

-- equal lengths and equal buffers have the same bytes in front
in_front : (buffer v w : List ℕ) → joined (4294967296 + length w) (w ++ drop (length w) buffer) ≡ joined (4294967296 + length v) (v ++ drop (length v) buffer) → w ≡ v
in_front buffer v w e =
    let a : 4294967296 + length w ≡ 4294967296 + length v = ap (λ (r : Joined). r.0) e in
    let k : length w ≡ length v = omega arith in
    sym (take-append_seam w (drop (length w) buffer))
    ∙ ap₂ (λ (i : ℕ) (l : List ℕ). take i l) k (ap (λ (r : Joined). r.1) e)
    ∙ take-append_seam v (drop (length v) buffer)

module _ (ps buffer v : List ℕ) (x y : Sheet) where
  -- the answer is none of the refusals
  told : (o : Joined) → Answered ps buffer x y o → o ≡ joined (4294967296 + length v) (v ++ drop (length v) buffer) → Delivered ps v x y
  told o w e = by_order_law w.order
    where
      n : o.0 ≡ 4294967296 + length v
      n = ap (λ (r : Joined). r.0) e

      by_order_law : JoinOrder ps buffer x y o.0 → Delivered ps v x y
      by_order_law (inl (_, k)) = absurd (omega (arith, n))
      by_order_law (inr (_, inl (_, k))) = absurd (omega (arith, n))
      by_order_law (inr (_, inr (_, inl (_, k)))) = absurd (omega (arith, n))
      by_order_law (inr (_, inr (_, inr (_, inl (_, k))))) = absurd (omega (arith, n))
      by_order_law (inr (_, inr (_, inr (_, inr (_, (_, inl (_, k))))))) = absurd (omega (arith, n))
      by_order_law (inr (same, inr (_, inr (_, inr (_, (ok, inr (_, k))))))) = record {
        same = same;
        accepted = ok;
        bytes = in_front buffer v (encode (pooled x y)) (sym (λ i. joined (k i) (w.written (omega (arith, n)) i)) ∙ e);
      }

-- ---- the boards

plays_length : (p : Program) (es s b : List ℕ) → Plays p es s b → length s ≡ size p → length b ≡ size p
plays_length p [] s b played h = h
plays_length p (e ∷ es) s b (plays {s' = m} r k sh q) h = plays_length p es m b q k

-- the board of a list whose commits are es is the one to which the rules lead
by_rules : (p : Program) (l₀ : List ℕ) (c : Bytes) (cs : List Call) → OnlyCalls p l₀ c cs → NoCopyBack p cs → (es b : List ℕ) → events_of (committed_in p (map call cs)) ≡ es
    → Plays p es (fresh p) b → b ≡ board_of p (bytes_after (map calls cs) c).round
by_rules p l₀ c cs h still es b e k = h.board_alone still b (subst (λ (w : List ℕ). Plays p w (fresh p) b) (sym e) k)

front : (n : ℕ) (f g : List ℕ) → length f ≡ n → take n (f ++ g) ≡ f
front n f g e = subst (λ (k : ℕ). take k (f ++ g) ≡ f) e (take-append_seam f g)

behind : (n : ℕ) (f g : List ℕ) → length f ≡ n → drop n (f ++ g) ≡ g
behind n f g e = subst (λ (k : ℕ). drop k (f ++ g) ≡ g) e (drop-append_seam f g)

module _ (ps : List ℕ) (words : All (λ b. b < 256) ps) {s z : List ℕ} (x : AcceptedSheet s ps) (y : AcceptedSheet z ps) (v : List ℕ) (d : Delivered ps v x.sheet y.sheet)
    (t₀ l₀ t₁ l₁ t₂ l₂ : List ℕ) (joint : Prepared v ps t₀ l₀ (pooled x.sheet y.sheet)) (first : Prepared s ps t₁ l₁ x.sheet) (second : Prepared z ps t₂ l₂ y.sheet) where
  abbrev p : Program
  p = program_of ps x.sheet

  abbrev q : Program
  q = program_of ps y.sheet

  abbrev j : Program
  j = program_of ps (pooled x.sheet y.sheet)

  okp : Accepted p
  okp = program_accepted ps words x.sheet x.accepted

  okq : Accepted q
  okq = program_accepted ps words y.sheet y.accepted

  okj : Accepted j
  okj = program_accepted ps words (pooled x.sheet y.sheet) d.accepted

  -- the joined board, cut where the first sheet's behaviours end
  record Cut (cs : List Call) : Type 0 where
    one : List ℕ
    two : List ℕ
    first_plays : Plays p (declared p (events_of (committed_in j (map call cs)))) (fresh p) one
    second_plays : Plays q (declared q (events_of (committed_in j (map call cs)))) (fresh q) two
    row : board_after j (compile_on v ps t₀).1 l₀ cs ≡ one ++ two
    long_one : length one ≡ size p

  cut : (cs : List Call) → NoCopyBack j cs → Cut cs
  cut cs h =
      let all = calls_of_law v ps t₀ l₀ (pooled x.sheet y.sheet) joint cs in
      let es = events_of (committed_in j (map call cs)) in
      let k = rules_board words x y es (known j okj cs) (board_after j (compile_on v ps t₀).1 l₀ cs) (all.board h) in
      record {
        one = k.0;
        two = k.1;
        first_plays = k.2;
        second_plays = k.3;
        row = k.4;
        long_one = plays_length p (declared p es) (fresh p) k.0 k.2 (length_fresh p);
      }

  first_half : (cs ds : List Call) → NoCopyBack j cs → NoCopyBack p ds → SameCommits j cs p ds
      → take (size p) (board_after j (compile_on v ps t₀).1 l₀ cs) ≡ board_after p (compile_on s ps t₁).1 l₁ ds
  first_half cs ds h h₁ same =
      let c = cut cs h in
      let mine = calls_of_law s ps t₁ l₁ x.sheet first ds in
      ap (take (size p)) c.row ∙ front (size p) c.one c.two c.long_one
      ∙ by_rules p l₁ (fresh_round_on s ps t₁ l₁) ds mine h₁ (declared p (events_of (committed_in j (map call cs)))) c.one same c.first_plays

  second_half : (cs ds : List Call) → NoCopyBack j cs → NoCopyBack q ds → SameCommits j cs q ds
      → drop (size p) (board_after j (compile_on v ps t₀).1 l₀ cs) ≡ board_after q (compile_on z ps t₂).1 l₂ ds
  second_half cs ds h h₂ same =
      let c = cut cs h in
      let mine = calls_of_law z ps t₂ l₂ y.sheet second ds in
      ap (drop (size p)) c.row ∙ behind (size p) c.one c.two c.long_one
      ∙ by_rules q l₂ (fresh_round_on z ps t₂ l₂) ds mine h₂ (declared q (events_of (committed_in j (map call cs)))) c.two same c.second_plays

  -- ---- rights and ranks

  means : j ≡ together p q
  means = fill_pooled (get ps) x.sheet y.sheet x.accepted.fits x.accepted.known

  halves : Halves p q j (compile_on v ps t₀).1 l₀ (compile_on s ps t₁).1 l₁ (compile_on z ps t₂).1 l₂
  halves = record {
    first_half = first_half;
    second_half = second_half;
    send_shared = λ player e h g.
        ap (λ (r : Program). may_send r player e) means ∙ send_both p q player e (omega (arith, okp.fits.all_senders)) (omega (arith, okq.fits.all_senders));
    send_first = λ player e h. ap (λ (r : Program). may_send r player e) means ∙ send_first p q player e (omega (arith, okq.fits.all_senders));
    send_second = λ player e h. ap (λ (r : Program). may_send r player e) means ∙ send_second p q player e (omega (arith, okp.fits.all_senders));
    see_first = λ player i h. ap (λ (r : Program). may_see r player i) means ∙ see_first p q player i (omega (arith, okp.fits.all_viewers));
    see_second = λ player i.
        let n : size p + i ≡ length p.viewers + i = omega (arith, okp.fits.all_viewers) in
        ap₂ (λ (r : Program) (k : ℕ). may_see r player k) means n ∙ see_second p q player i;
    rank_first = λ e h. ap (λ (r : Program). get_or r.priorities e 0) means ∙ rank_first p q e h;
    rank_second = λ e h. ap (λ (r : Program). get_or r.priorities e 0) means ∙ rank_second (get ps) x.sheet y.sheet d.same e h;
  }

pub half_boards : HalfBoards
unfolding as_read
half_boards s z ps buffer v t₀ l₀ t₁ l₁ t₂ l₂ x y one two a₀ b₀ answer =
    let words = one.param_bytes in
    let u = as_read ps x one.taken s one.sent_as in
    let w = as_read ps y two.taken z two.sent_as in
    let q : join_on (encode x) (encode y) ps buffer ≡ joined (4294967296 + length v) (v ++ drop (length v) buffer) = rw (one.sent_as, two.sent_as) answer in
    let d = told ps buffer v x y (join_on (encode x) (encode y) ps buffer) (join_says ps buffer words x y one.taken two.taken) q in
    let joint : Prepared v ps t₀ l₀ (pooled x y) = record {
      param_bytes = words;
      room = b₀;
      compiles = ap (λ (r : Compiled). r.0) (accepted_taken v ps (pooled x y) d.bytes d.accepted t₀ a₀);
      sent_as = d.bytes;
      taken = d.accepted;
    } in
    (joint, halves ps words u w v d t₀ l₀ t₁ l₁ t₂ l₂ joint one two)
