-- A list of parts read in a loop: what was read so far stands before what is left (`Gathered`), with three lemmas, at
-- the start, for a turn and at the end.
use Rattle.std.specs.Prelude.{Option, Err, None}
use Rattle.std.specs.Option.{option_or}
use Rattle.source_coding.specs.declared.faults.Fault.{Fault}
use Rattle.source_handlers.specs.Parts.{part}
use Rattle.lib_base.proofs.Prelude.{ℕ, ◌≤◌, ◌+◌, ◌≡◌, refl, ◌∙◌, sym, true, false, Bool, List, ◌∷◌, ◌++◌, []}
use Rattle.lib_base.proofs.Prelude.{append_assoc, append-nil, length, take, arith}
use Rattle.source_language.specs.Tokens.{SheetToken}
use Rattle.source_language.specs.Faults.{Kind, OrFault, fault, fine, and_then}
use Rattle.source_language.specs.Limits.{after_all}
use Rattle.source_language.specs.Reader.{Phrased, bad, got, sign_at, many_of}
use Rattle.source_coding.specs.FaultWords.{fault_of}
use Rattle.source_coding.specs.Places.{tokens_from}
use Rattle.source_declarations.proofs.Many.{Leaves, prepended, prepended_none, many_turn, many_faults, many_over}
use Rattle.source_handlers.specs.Parts.{Coding, PartWritten, PartAgrees}
use Rattle.source_handlers.proofs.Faults.{both_faults}
use Rattle.source_field.proofs.Laid.{fault≢fine}

-- a list's coding is its members', one after the other
pub record Grows {A B : Type 0} (one : Coding A B) (all : Coding (List A) (List B)) : Type 0 where
  pub none_resolved : all.resolved [] ≡ fine []
  pub none_encoded : all.encoded [] ≡ []
  pub none_sized : all.sized [] ≡ 0
  pub more_resolved : (xs : List A) (x : A)
      → all.resolved (xs ++ (x ∷ [])) ≡ and_then (all.resolved xs) (λ ys. and_then (one.resolved x) (λ y. fine (ys ++ (y ∷ []))))
  pub more_encoded : (ys : List B) (y : B) → all.encoded (ys ++ (y ∷ [])) ≡ all.encoded ys ++ one.encoded y
  pub more_sized : (xs : List A) (x : A) → all.sized (xs ++ (x ∷ [])) ≡ all.sized xs + one.sized x

pub after_more : {A S : Type 0} (next : S → A → S) (s : S) (xs : List A) (x : A) → after_all next s (xs ++ (x ∷ [])) ≡ next (after_all next s xs) x
unfolding after_all
after_more next s [] x = refl
after_more next s (y ∷ ys) x = after_more next (next s y) ys x

module _ {A B : Type 0} (one : Coding A B) (all : Coding (List A) (List B)) (grows : Grows one all) (text : List ℕ) (n : ℕ) (o : List ℕ) where
  more_bytes : (end stop : ℕ) (p q : List ℕ) (a : OrFault (List B)) (d : OrFault B)
      → ((ys : List B) → a ≡ fine ys → end ≤ length o → take end p ≡ take n o ++ all.encoded ys)
      → ((y : B) → d ≡ fine y → stop ≤ length p → take stop q ≡ take end p ++ one.encoded y)
      → end ≤ stop → length p ≡ length o → (zs : List B) → and_then a (λ ys. and_then d (λ y. fine (ys ++ (y ∷ [])))) ≡ fine zs → stop ≤ length o
      → take stop q ≡ take n o ++ all.encoded zs
  more_bytes end stop p q (fault k j) d f g h l zs e r = absurd (fault≢fine e)
  more_bytes end stop p q (fine ys) (fault k j) f g h l zs e r = absurd (fault≢fine e)
  more_bytes end stop p q (fine ys) (fine y) f g h l zs e r =
      let z : zs ≡ ys ++ (y ∷ []) = cc in
      let i : take stop q ≡ take end p ++ one.encoded y = g y refl (omega arith) in
      let j : take end p ≡ take n o ++ all.encoded ys = f ys refl (omega arith) in
      rw (i, j, z, grows.more_encoded ys y) (append_assoc (take n o) (all.encoded ys) (one.encoded y))

  -- a member behind those before it
  pub part_more : {f end to stop : ℕ} {w v : Option Fault} {p q : List ℕ} {xs : List A} {x : A} {ts us : List SheetToken} → PartWritten all text n o p f end w xs ts
      → PartWritten one text end p q to stop v x us → end ≤ stop → length p ≡ length o → PartWritten all text n o q to stop (option_or w v) (xs ++ (x ∷ [])) us
  part_more {f} {end} {to} {stop} {w} {v} {p} {q} {xs} {x} a b h l =
      record {
        onward = b.onward;
        size = omega (arith, a.size, b.size, grows.more_sized xs x);
        names = rw (a.names, b.names, grows.more_resolved xs x) (sym (both_faults (λ ys y. ys ++ (y ∷ [])) (all.resolved xs) (one.resolved x)));
        bytes = λ zs e r. more_bytes end stop p q (all.resolved xs) (one.resolved x) a.bytes b.bytes h l zs (sym (grows.more_resolved xs x) ∙ e) r;
      }

  module _ {S : Type 0} (starts : ℕ → Bool) (reader : S → List SheetToken → Phrased A) (next : S → A → S) (first : S) (at : ℕ)
      (quiet : starts 0 ≡ false) (takes : (s : S) (ts : List SheetToken) → Leaves (length ts) (reader s ts)) where
    abbrev all_read : Phrased (List A)
    all_read = many_of starts reader next (length (tokens_from text at)) first (tokens_from text at)

    -- these parts are read up to place f
    pub record Gathered (done : List A) (p : List ℕ) (f end : ℕ) (w : Option Fault) : Type 0 where
      pub whole : all_read ≡ prepended done (many_of starts reader next (length (tokens_from text f)) (after_all next first done) (tokens_from text f))
      pub written : PartWritten all text n o p f end w done (tokens_from text f)

    pub gather_start : Gathered [] o at n None
    unfolding after_all
    gather_start =
        record {
          whole = prepended_none all_read;
          written = record {
            onward = refl;
            size = omega (arith, grows.none_sized);
            names = rw grows.none_resolved;
            bytes = λ ys e r. let z : ys ≡ [] = (let q = grows.none_resolved in cc) in rw (z, grows.none_encoded) (sym (append-nil (take n o)));
          };
        }

    pub gather_turn : {done : List A} {p q : List ℕ} {f end to stop : ℕ} {w v : Option Fault} {x : A} {us : List SheetToken} → Gathered done p f end w
        → starts (sign_at (tokens_from text f)) ≡ true → reader (after_all next first done) (tokens_from text f) ≡ got x us
        → PartWritten one text end p q to stop v x us → end ≤ stop → length p ≡ length o → Gathered (done ++ (x ∷ [])) q to stop (option_or w v)
    gather_turn {done} {p} {q} {f} {end} {to} {stop} {w} {v} {x} {us} g b e r h l =
        let m : PartWritten all text n o q to stop (option_or w v) (done ++ (x ∷ [])) us = part_more g.written r h l in
        let t : us ≡ tokens_from text to = r.onward in
        record {
          whole = g.whole ∙ many_turn starts reader next quiet takes done (after_all next first done) (tokens_from text f) x us b e ∙ rw (after_more next first done x, t);
          written = rw t at m;
        }

    pub gather_over : {done : List A} {p : List ℕ} {f end : ℕ} {w : Option Fault} → Gathered done p f end w → starts (sign_at (tokens_from text f)) ≡ false
        → PartAgrees all text n o p (part f end w) all_read
    gather_over {done} {p} {f} {end} {w} g b =
        let e : all_read ≡ got done (tokens_from text f) =
        g.whole ∙ many_over starts reader next quiet takes done (length (tokens_from text f)) (after_all next first done) (tokens_from text f) b in
        rw e g.written

    pub gather_fault : {done : List A} {p : List ℕ} {f end : ℕ} {w : Option Fault} {j : Kind} {i : ℕ} (q : List ℕ) → Gathered done p f end w → starts (sign_at (tokens_from text f)) ≡ true
        → reader (after_all next first done) (tokens_from text f) ≡ bad j i → PartAgrees all text n o q (Err (fault_of j i)) all_read
    gather_fault {done} {p} {f} {end} {w} {j} {i} q g b e =
        let r : all_read ≡ bad j i = g.whole ∙ many_faults starts reader next quiet takes done (after_all next first done) (tokens_from text f) j i b e in
        rw r refl
