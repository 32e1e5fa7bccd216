-- HDR1 and HDR2 that are written hold no line feed, and are read as what was written.
use Rattle.std.specs.Prelude.{◌≡◌, ℕ, true, List, [], ◌∷◌, Ok, codes, refl}
use Rattle.std.proofs.Common.{sym, ap, ◌∙◌}
use Rattle.tables.proofs.Written.{written_reads}
use Rattle.fields.specs.declared.owner.Owner.{Owner}
use Rattle.fields.specs.declared.owner.Owner.TheVariants.{Sun, Marked}
use Rattle.fields.specs.Words.{blank}
use Rattle.lines.specs.Faults.{fault_of}
use Rattle.lines.specs.Feeds.{plain}
use Rattle.lines.specs.Places.{place_reading}
use Rattle.tables.specs.Forms.Form.{decimals}
use Rattle.places.proofs.Unbroken.{PlainKind, PlainTable, choice_plain, given_plain, laid_plain, shown_plain, spare_plain}
use Rattle.labels.specs.declared.header.Hdr1.{Hdr1}
use Rattle.labels.specs.declared.header.Hdr1Free.{Hdr1Free}
use Rattle.labels.specs.declared.header.Hdr1Context.{Hdr1Context}
use Rattle.labels.specs.Headers.{Hdr1Fits, hdr1, hdr1_line, hdr1_place, hdr1_values, header, places_of_owner, user}

owner_plain : (o : Owner) → plain (places_of_owner o) ≡ true
owner_plain (Sun n) = shown_plain (decimals 6) n
owner_plain (Marked m) = refl

user_plain : (o : Owner) → PlainKind (user o)
user_plain o = choice_plain 6 (blank 6 ∷ places_of_owner o ∷ []) (refl, (owner_plain o, tt))

hdr1_plain : (o : Owner) (s : List ℕ) → plain s ≡ true → PlainTable (hdr1 o s)
hdr1_plain o s p = (
  refl,
  (
    user_plain o,
    (
      refl,
      (
        refl,
        (
          choice_plain 1 (blank 1 ∷ codes "1" ∷ []) (refl, (refl, tt)),
          (
            user_plain o,
            (
              given_plain 6 [] s p,
              (
                refl,
                (spare_plain 4, (spare_plain 2, (tt, (tt, (choice_plain 1 (blank 1 ∷ codes "0" ∷ []) (refl, (refl, tt)), (refl, (refl, tt))))))),
              ),
            ),
          ),
        ),
      ),
    ),
  ),
)

pub hdr1_unbroken : (k : Hdr1Context) (h : Hdr1) → Hdr1Fits k h → plain (hdr1_line k h) ≡ true
hdr1_unbroken k h a = laid_plain (hdr1 k.owner k.serial) (hdr1_values k h) (hdr1_plain k.owner k.serial a.serial) a.allowed

pub hdr1_back : (k : Hdr1Context) (h : Hdr1) → Hdr1Fits k h → place_reading (hdr1_place k) (hdr1_line k h) ≡ Ok h
hdr1_back k h a =
    written_reads fault_of (hdr1 k.owner k.serial) header (hdr1_values k h) a.allowed
    ∙ ap (λ (f : Hdr1Free). Ok (record { creation = h.creation; expiry = h.expiry; free = f })) (sym a.free)
