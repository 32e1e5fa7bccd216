-- VOL1 is written alike for both kinds of owner, by what stands at its places.
use Rattle.std.proofs.Common.{◌≡◌, ℕ, List, [], refl}
use Rattle.tables.specs.Kinds.Kind.{letters}
use Rattle.tables.specs.Laying.{laid}
use Rattle.fields.specs.declared.owner.Owner.{Owner}
use Rattle.fields.specs.declared.owner.Owner.TheVariants.{Sun, Marked}
use Rattle.fields.specs.Words.{blank}
use Rattle.labels.specs.Headers.{places_of_owner}
use Rattle.labels.specs.Volumes.{owner_line, owner_says, places_of_mark, vol1}

abbrev pub volume_bytes : List ℕ → List ℕ → List ℕ → List ℕ
volume_bytes s mark user = laid (vol1 (letters 6 []) (letters 6 [])) s (blank 1) mark user

pub written : (o : Owner) (s : List ℕ) → volume_bytes s (places_of_mark o) (places_of_owner o) ≡ owner_line (owner_says o) s
written (Sun n) s = refl
written (Marked m) s = refl
