-- EOF1 that is written holds no line feed, and is read as what was written.
use Rattle.std.specs.Prelude.{◌≡◌, true, [], Ok, refl}
use Rattle.tables.proofs.Written.{written_reads}
use Rattle.lines.specs.Faults.{fault_of}
use Rattle.lines.specs.Feeds.{plain}
use Rattle.lines.specs.Places.{place_reading}
use Rattle.places.proofs.Unbroken.{PlainTable, given_plain, laid_plain}
use Rattle.trailers.specs.declared.closing.Eof1Context.{Eof1Context}
use Rattle.trailers.specs.Repeats.{Eof1Fits, eof1, eof1_line, eof1_place, eof1_values}

eof1_plain : (k : Eof1Context) → Eof1Fits k → PlainTable (eof1 k.serial k.header)
eof1_plain k a = (
  refl,
  (
    refl,
    (
      given_plain 6 [] k.header.free.user a.user,
      (
        refl,
        (
          refl,
          (
            given_plain 1 [] k.header.free.version a.version,
            (
              given_plain 6 [] k.header.free.user_again a.user_again,
              (
                given_plain 6 [] k.serial a.serial,
                (
                  refl,
                  (
                    given_plain 4 [] k.header.free.spare4 a.spare4,
                    (
                      given_plain 2 [] k.header.free.spare2 a.spare2,
                      (
                        tt,
                        (
                          tt,
                          (given_plain 1 [] k.header.free.access a.access, (refl, (refl, tt))),
                        ),
                      ),
                    ),
                  ),
                ),
              ),
            ),
          ),
        ),
      ),
    ),
  ),
)

pub eof1_unbroken : (k : Eof1Context) → Eof1Fits k → plain (eof1_line k) ≡ true
eof1_unbroken k a = laid_plain (eof1 k.serial k.header) (eof1_values k) (eof1_plain k a) a.allowed

pub eof1_back : (k : Eof1Context) → Eof1Fits k → place_reading (eof1_place k) (eof1_line k) ≡ Ok (tt {0})
eof1_back k a = written_reads fault_of (eof1 k.serial k.header) (λ u v w s x y c e f. tt) (eof1_values k) a.allowed
