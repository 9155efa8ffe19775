-- What compile's 0 says of both sheets: the bytes spliced are those of the sheet pooled from the two that were read.
-- Each answer from the facts that lead to it.
use Rattle.lib_base.proofs.Prelude.{ℕ, ◌≤◌, ◌<◌, ◌+◌, ◌≡◌, ◌≢◌, ◌∙◌, sym, ap, true, false, Bool, not, List, [], ◌++◌}
use Rattle.lib_base.proofs.Prelude.{length, length-take, take, drop, replicate, length-replicate, ne_eqb, le-ltb, lt-ltb}
use Rattle.lib_base.proofs.Prelude.{eq-eqb, not-true, not-false, arith}
use Rattle.lib_base.specs.Basics.{All}
use Rattle.lib_word.specs.Word.{get}
use Rattle.spec_language.specs.Refusals.{unlike_ranks, short_join}
use Rattle.spec_language.specs.Sheet.{Sheet}
use Rattle.spec_language.specs.Grammar.{encode}
use Rattle.spec_language.specs.Accepted.{SheetAccepted}
use Rattle.spec_language.specs.Reading.{got, read_sheet}
use Rattle.link_pooled.specs.Pooled.{pooled, same_ranks}
use Rattle.link_events.specs.Merging.{agree_from}
use Rattle.link_events.specs.Written.{BytesWritten}
use Rattle.link_bytes.specs.Splice.{spliced}
use Rattle.link_bytes.proofs.Spliced.{spliced_are, ranks_agree}
use Rattle.back_compile.proofs.AcceptedExactly.{accepted_exactly}
use Rattle.back_compile.specs.Number.{number_on}
use Rattle.link_join.specs.Join.{delivered_in, result_on, pool_on, join_on}
use Rattle.link_join.specs.Joined.{joined}

-- a sheet that compile takes
pub record AcceptedSheet (s ps : List ℕ) : Type 0 where
  pub sheet : Sheet
  pub bytes : encode sheet ≡ s
  pub accepted : SheetAccepted (get ps) (length ps) sheet
  pub read : read_sheet s ≡ got sheet []

pub taken : (s ps : List ℕ) → All (λ b. b < 256) s → number_on s ps ≡ 0 → AcceptedSheet s ps
unfolding number_on
taken s ps h q =
    let t = (accepted_exactly s ps (replicate 34816 0) h (omega (arith, length-replicate {A = ℕ} 34816 0))).0 q in
    record { sheet = t.0; bytes = t.1; accepted = t.2; read = t.4 }

pub read_few : {s ps : List ℕ} → AcceptedSheet s ps → length s ≤ 8192
read_few {s} {ps} r = rw r.bytes at r.accepted.fits.few_bytes

-- ---- from both sheets

module _ {s t ps : List ℕ} (x : AcceptedSheet s ps) (y : AcceptedSheet t ps) where
  pub spliced_read : spliced s t ≡ encode (pooled x.sheet y.sheet)
  spliced_read =
      sym (ap (λ (u : List ℕ). spliced u t) x.bytes) ∙ sym (ap (spliced (encode x.sheet)) y.bytes)
      ∙ spliced_are (get ps) x.sheet y.sheet x.accepted.fits y.accepted.fits x.accepted.known y.accepted.known

  pub ranks_read : agree_from 32 s 0 t 0 ≡ same_ranks x.sheet.signals y.sheet.signals
  ranks_read =
      sym (ap (λ (u : List ℕ). agree_from 32 u 0 t 0) x.bytes) ∙ sym (ap (λ (u : List ℕ). agree_from 32 (encode x.sheet) 0 u 0) y.bytes)
      ∙ ranks_agree (get ps) x.sheet y.sheet x.accepted.fits y.accepted.fits x.accepted.known y.accepted.known

  opened : (buffer : List ℕ) → number_on s ps ≡ 0 → number_on t ps ≡ 0 → join_on s t ps buffer ≡ pool_on x.sheet y.sheet ps buffer
  unfolding join_on
  opened buffer p q = rw (p, q, x.read, y.read)

  module _ (buffer : List ℕ) (p : number_on s ps ≡ 0) (q : number_on t ps ≡ 0) (b : Bool) (e : b ≡ agree_from 32 s 0 t 0) where
    pub unlike : not b ≡ true → joined unlike_ranks buffer ≡ join_on s t ps buffer
    unfolding pool_on
    unlike h = sym (opened buffer p q ∙ rw (sym ranks_read ∙ sym e ∙ not-true b h))

    module _ {o o' : List ℕ} {n : ℕ} (h : not b ≡ false) (w : BytesWritten o 0 (spliced s t) o' n) where
      alike : join_on s t ps buffer ≡ result_on (take n o') ps buffer
      unfolding pool_on
      alike = opened buffer p q ∙ rw (sym ranks_read ∙ sym e ∙ not-false b h, ← spliced_read, ← w.bytes)

      pub crowded : {k : ℕ} → k ≡ number_on (take n o') ps → k ≢ 0 → joined k buffer ≡ join_on s t ps buffer
      unfolding result_on
      crowded {k} d l = sym (alike ∙ rw (← d, ne_eqb k 0 l))

      delivered : number_on (take n o') ps ≡ 0 → join_on s t ps buffer ≡ delivered_in (take n o') buffer
      unfolding result_on
      delivered d = alike ∙ rw d

      module _ (r : n ≤ length o') (d : number_on (take n o') ps ≡ 0) where
        pub no_room : length buffer < n → joined short_join buffer ≡ join_on s t ps buffer
        unfolding delivered_in
        no_room l =
            let z : length (take n o') ≡ n = omega (arith, length-take n o') in
            sym (delivered d ∙ rw (z, lt-ltb (length buffer) n l))

        pub whole : n ≤ length buffer → {p : List ℕ} → p ≡ take n o' ++ drop n buffer → joined (4294967296 + n) p ≡ join_on s t ps buffer
        unfolding delivered_in
        whole l {p} c =
            let z : length (take n o') ≡ n = omega (arith, length-take n o') in
            sym (delivered d ∙ rw (z, le-ltb (length buffer) n l, c))

-- ---- a sheet that compile turns down

module _ (s t ps buffer : List ℕ) (x y : ℕ) (p : x ≡ number_on s ps) where
  pub first_refused : (x ≡ 0 → ⊥) → joined x buffer ≡ join_on s t ps buffer
  unfolding join_on
  first_refused h = rw (← p, ne_eqb x 0 h)

  pub second_refused : x ≡ 0 → y ≡ number_on t ps → (y ≡ 0 → ⊥) → joined y buffer ≡ join_on s t ps buffer
  unfolding join_on
  second_refused h q g = rw (← p, ← q, eq-eqb x 0 h, ne_eqb y 0 g)
