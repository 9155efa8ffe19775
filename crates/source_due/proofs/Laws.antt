-- A constant that is due: a number, or `-` and the number behind it.
use Rattle.lib_base.proofs.Prelude.{ℕ, ◌-◌, ◌%◌, ◌≡◌, refl, List}
use Rattle.lib_base.proofs.Prelude.{ne_eqb, le-ltb}
use Rattle.source_language.specs.Text.{plus, minus}
use Rattle.source_language.specs.Limits.{largest}
use Rattle.source_language.specs.Reader.{got, sign_at, value_of}
use Rattle.source_coding.specs.Places.{tokens_from}
use Rattle.source_due.specs.Due.{Due, found, SignTold, NumberTold, ValueTold}
use Rattle.std.specs.Prelude.{Ok, Err}
use Rattle.source_coding.specs.declared.faults.Fault.{Fault}
use Rattle.source_due.specs.declared.Found.{Found}
use Rattle.source_due.proofs.Passes.{number_fails}

module _ (text : List ℕ) (at : ℕ) where
  pub plain_value : (s r : Due) (w : Fault) → s ≡ Err w → SignTold text at 5 s → NumberTold text at largest r → ValueTold text at r
  unfolding value_of
  plain_value s (Ok d) w q e (f, g) = record { constant = plus d.number; read = rw (f, le-ltb largest d.number g); written = refl; fits = g }
  plain_value s (Err w') w q e f =
      let h = rw q at e in
      rw (ne_eqb (sign_at (tokens_from text at)) 5 h.0) (number_fails text at largest (λ p n us. got (plus n) us) w' f)

  module _ (s : Due) (d : Found) (q : s ≡ Ok d) (e : SignTold text at 5 s) where
    pub minus_bad : (r : Due) (w : Fault) → r ≡ Err w → NumberTold text d.next 2147483648 r → ValueTold text at (Err w)
    unfolding value_of
    minus_bad r w g f =
        let t = rw q at e in
        rw t (number_fails text d.next 2147483648 (λ p n us. got (minus n) us) w (rw g at f))

    pub minus_value : (r : Due) (x : Found) (u : ℕ) → r ≡ Ok x → NumberTold text d.next 2147483648 r
        → u ≡ (4294967296 - x.number) % 4294967296 → ValueTold text at (found d.place u x.next)
    unfolding value_of
    minus_value r x u g f z =
        let t = rw q at e in
        let n = rw g at f in
        record { constant = minus x.number; read = rw (t, n.0, le-ltb 2147483648 x.number n.1); written = z; fits = n.1 }
