-- What is left behind the labels, and what is known of what they say.
use Rattle.std.proofs.Common.{◌≡◌, ℕ, ◌≤◌, Bool, true, false, List, drop, Ok, Err, Result, sym, refl, ap, subst, ◌∙◌}
use Rattle.std.specs.Result.{result_map_both}
use Rattle.std.proofs.lemmas.List.{drop-drop}
use Rattle.lines.specs.declared.fault.FileFault.{FileFault}
use Rattle.lines.specs.Faults.{numbered}
use Rattle.lines.specs.Feeds.{line_reading}
use Rattle.lines.specs.Places.{LineOf, place_reading}
use Rattle.lines.proofs.Reading.{reads_place}
use Rattle.labels.specs.declared.header.Hdr1.{Hdr1}
use Rattle.labels.specs.declared.header.Hdr1Context.{Hdr1Context}
use Rattle.labels.specs.declared.user.Uhl1.{Uhl1}
use Rattle.labels.specs.declared.user.Uhl1Context.{Uhl1Context}
use Rattle.labels.specs.Headers.{hdr1_place, hdr2_place, record_length_text}
use Rattle.labels.specs.Users.{uhl1_place}
use Rattle.labels.specs.Volumes.{owner_says, vol1_place, volume as volume_says}
use Rattle.grammar.specs.Headings.{Setting}
use Rattle.grammar.specs.Next.{names_multi}
use Rattle.grammar.specs.Next.Said.{start, volume, header, sized}
use Rattle.grammar.specs.Reading.{reading_on}
use Rattle.taking.specs.Taking.{taking}
use Rattle.taking.proofs.Feeds.{read_of}
use Rattle.taking.proofs.LabelSteps.{header_agrees, size_agrees, volume_agrees}
use Rattle.taking.proofs.Stepping.{went}

-- the length of a record says again whether the file is multi-day
pub multi_named : (multi : Bool) → names_multi (record_length_text multi) ≡ multi
multi_named true = refl
multi_named false = refl

-- The labels that are read one after the other: each leads the reading on to the bytes behind it.

module _ (s : Setting) (k : Hdr1Context) (bytes : List ℕ) {one : List ℕ} (first : one ≡ drop 81 bytes) (read1 : Ok (volume_says (owner_says k.owner) k.serial) ≡ taking 1 80 (λ l. place_reading (vol1_place l) l) bytes) where
  pub to_header : reading_on s 1 start bytes ≡ reading_on s 2 (volume (owner_says k.owner) k.serial) one
  to_header = went (volume_agrees s 1 bytes) _ one first read1

  module _ {h : Hdr1} {two : List ℕ} (second : two ≡ drop 81 one) (read2 : Ok h ≡ taking 2 80 (λ l. place_reading (hdr1_place k) l) one) where
    pub to_size : reading_on s 1 start bytes ≡ reading_on s 3 (header (owner_says k.owner) k.serial h) two
    to_size = to_header ∙ went (header_agrees s 2 one k) _ two second read2

    pub to_user : (multi : Bool) {three : List ℕ} → three ≡ drop 81 two → Ok (record_length_text multi) ≡ taking 3 80 (λ l. place_reading (hdr2_place s.service) l) two → reading_on s 1 start bytes ≡ reading_on s 4 (sized (owner_says k.owner) k.serial h multi) three
    to_user multi {three} third read3 =
        to_size
        ∙ went (size_agrees s 3 two (owner_says k.owner) k.serial h) _ three third read3
        ∙ ap (λ (b : Bool). reading_on s 4 (sized (owner_says k.owner) k.serial h b) three) (multi_named multi)

-- what is behind three labels
pub behind_three : (bytes : List ℕ) {a b c : List ℕ} → a ≡ drop 81 bytes → b ≡ drop 81 a → c ≡ drop 81 b → c ≡ drop 243 bytes
behind_three bytes {a} {b} {c} p q r = r ∙ ap (drop 81) (q ∙ ap (drop 81) p ∙ drop-drop 81 81 bytes) ∙ drop-drop 81 162 bytes

-- the processing day that is read is a day
pub processing_within : (k : Uhl1Context) (n : ℕ) (bytes : List ℕ) (u : Uhl1) → Ok u ≡ taking n 80 (λ l. place_reading (uhl1_place k) l) bytes → u.processing ≤ 36524
processing_within k n bytes u h =
    let r = read_of 80 (λ l. place_reading (uhl1_place k) l) bytes u (unnumbered (line_reading 80 (λ l. place_reading (uhl1_place k) l) bytes) h) in
    of_line (((reads_place (uhl1_place k) r.line r.wide).accepted u).0 (sym r.read))
  where
    unnumbered : (r : Result Uhl1 FileFault) → Ok u ≡ result_map_both (λ x. x) (λ e. numbered e n) r → Ok u ≡ r
    unnumbered (Ok v) q = cc
    unnumbered (Err f) q = cc

    of_line : {l : List ℕ} → LineOf (uhl1_place k) l u → u.processing ≤ 36524
    of_line s = let P : Uhl1 → Type 0 = λ v. v.processing ≤ 36524 in subst P s.says s.is_line.allowed.0.0
