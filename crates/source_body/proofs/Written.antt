-- A behaviour's bytes: what stands before its expression or handlers, these, who may see it, and the head in front make
-- its field. Of a passive, an active and a row it is told at once.
use Rattle.std.specs.Prelude as Code
use Rattle.source_coding.specs.declared.faults.Fault.{Fault}
use Rattle.lib_base.proofs.Prelude.{ℕ, ◌≤◌, ◌+◌, ◌≡◌, refl, ◌∙◌, sym, ap, Option, some, none, List, ◌++◌, append_assoc}
use Rattle.lib_base.proofs.Prelude.{length, take, eqb, ne_eqb, arith}
use Rattle.lib_base.proofs.Tools.{split}
use Rattle.spec_language.specs.Sheet.{Item, Entry}
use Rattle.spec_language.specs.Reading.{entry}
use Rattle.spec_language.specs.Grammar.{field, tag_of, encode_item, encode_viewer, encode_behaviour}
use Rattle.source_language.specs.Tokens.{SheetToken}
use Rattle.source_language.specs.Text.{Body, TextEvent, behaviour}
use Rattle.source_language.specs.Faults.{OrFault, fault, fine, and_then}
use Rattle.source_language.specs.Meaning.{NameMeaning, bits_below, rights_of, item_of}
use Rattle.source_coding.specs.FaultWords.{fault_in}
use Rattle.source_coding.specs.Places.{tokens_from}
use Rattle.source_coding.specs.Sizes.{body_size, viewer_size}
use Rattle.source_declarations.specs.Players.{rights_number}
use Rattle.sheet_write.specs.Writes.{fitted, as_field, viewer_bytes, start_bytes}
use Rattle.sheet_write.proofs.Laws.{fitted_taken, fitted_long, enclosed_taken}
use Rattle.source_handlers.specs.Parts.{PartWritten}
use Rattle.source_body.specs.Body.{behaviour_coding}
use Rattle.source_coding.proofs.Lengths.{viewer_takes}
use Rattle.source_language.proofs.Fits.{bits_small}
use Rattle.source_field.proofs.Laid.{fault≢fine}

-- ---- who may see it

viewer_bytes_law : (m : Option (List ℕ)) → viewer_bytes (rights_number m) ≡ encode_viewer (rights_of m)
viewer_bytes_law none = refl
viewer_bytes_law (some ns) = rw (ne_eqb (bits_below 8 ns) 256 (omega (arith, bits_small 8 ns)))

-- ---- one behaviour

-- an item made of a result
twice_made : {X : Type 0} (a : OrFault X) (wrap : X → Item) (v : Option ℕ)
    → fault_in (and_then (and_then a (λ x. fine (wrap x))) (λ x. fine (entry x v))) ≡ fault_in a
twice_made (fault k p) wrap v = refl
twice_made (fine x) wrap v = refl

module _ {X : Type 0} (enc : X → List ℕ) (wrap : X → Item) (t : ℕ) (before : List ℕ) (tagged : (x : X) → tag_of (wrap x) ≡ t) (coded : (x : X) → encode_item (wrap x) ≡ before ++ enc x) where
  entry_bytes : (v : Option ℕ) (seen : List ℕ) (n m end stop : ℕ) (o p : List ℕ) (a : OrFault X) → seen ≡ encode_viewer v → m ≡ n + 3 + length before
      → ((x : X) → a ≡ fine x → end ≤ length (fitted o (n + 3) before) → take end p ≡ take m (fitted o (n + 3) before) ++ enc x) → m ≤ end
      → length p ≡ length o → length o ≤ 8192 → stop ≡ end + length seen
      → (y : Entry) → and_then (and_then a (λ x. fine (wrap x))) (λ x. fine (entry x v)) ≡ fine y → stop ≤ length o
      → take stop (as_field t n stop (fitted p end seen)) ≡ take n o ++ encode_behaviour y
  entry_bytes v seen n m end stop o p (fault k i) hv hm f h l b st y e g = absurd (fault≢fine e)
  entry_bytes v seen n m end stop o p (fine x) hv hm f h l b st y e g =
      let z : y ≡ entry (wrap x) v = cc in
      let l₁ : length (fitted o (n + 3) before) ≡ length o = fitted_long o (n + 3) before in
      let l₂ : length (fitted p end seen) ≡ length o = fitted_long p end seen ∙ l in
      let q₁ : take m (fitted o (n + 3) before) ≡ take (n + 3) o ++ before = rw hm (fitted_taken o (n + 3) before (omega arith)) in
      let q₂ : take stop (fitted p end seen) ≡ take end p ++ seen = rw st (fitted_taken p end seen (omega arith)) in
      let q₃ : take end p ≡ take m (fitted o (n + 3) before) ++ enc x = f x refl (omega arith) in
      let q₄ : take stop (fitted p end seen) ≡ take (n + 3) o ++ ((before ++ enc x) ++ seen) = rw (q₂, q₃, q₁) (simp append_assoc) in
      let r : field (tag_of (wrap x)) (encode_item (wrap x) ++ encode_viewer v) ≡ field t ((before ++ enc x) ++ seen) = rw (tagged x, coded x, hv) in
      rw (z, r) (enclosed_taken t n stop o (fitted p end seen) ((before ++ enc x) ++ seen) (omega arith) g l₂ q₄)

  pub entry_written : (es : List TextEvent) (find : List ℕ → NameMeaning) (text s : List ℕ) (body : Body) (v : Option (List ℕ)) (a : OrFault X) (size n m to end stop : ℕ) (w : Code.Option Fault) (bits : ℕ) (o p : List ℕ)
      (us : List SheetToken) → item_of es find body ≡ and_then a (λ x. fine (wrap x)) → body_size body ≡ length before + size → bits ≡ rights_number v → m ≡ n + 3 + length before
      → end ≡ m + size → w ≡ fault_in a → us ≡ tokens_from text to
      → ((x : X) → a ≡ fine x → end ≤ length (fitted o (n + 3) before) → take end p ≡ take m (fitted o (n + 3) before) ++ enc x)
      → length p ≡ length o → length o ≤ 8192 → stop ≡ end + length (viewer_bytes bits)
      → PartWritten (behaviour_coding es find) text n o (as_field t n stop (fitted p end (viewer_bytes bits))) to stop w (behaviour s body v) us
  entry_written es find text s body v a size n m to end stop w bits o p us ie bs hb hm he hw ho f l few hs =
      let vb : viewer_bytes bits ≡ encode_viewer (rights_of v) = ap viewer_bytes hb ∙ viewer_bytes_law v in
      let vs : length (viewer_bytes bits) ≡ viewer_size v = ap length vb ∙ viewer_takes v in
      record {
        onward = ho;
        size = omega arith;
        names = rw ie (hw ∙ sym (twice_made a wrap (rights_of v)));
        bytes = rw ie (entry_bytes (rights_of v) (viewer_bytes bits) n m end stop o p a vb hm f (omega arith) l few hs);
      }
