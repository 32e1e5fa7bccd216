-- The labels before the batches, taken off the bytes one by one.
use Rattle.std.proofs.Common.{◌≡◌, ℕ, ◌+◌, ◌≤◌, Bool, true, false, cond, List, ◌∷◌, length, Err, refl, ap, ◌∙◌, arith}
use Rattle.std.specs.Result.{result_map_both}
use Rattle.tables.specs.Forms.{read_form}
use Rattle.tables.specs.Forms.Form.{dates}
use Rattle.tables.specs.Walks.{part}
use Rattle.fields.specs.declared.owner.Owner.{Owner}
use Rattle.fields.specs.declared.owner.Owner.TheVariants.{Sun, Marked}
use Rattle.lines.specs.declared.fault.FileFault.TheVariants.{Line}
use Rattle.lines.specs.declared.fault.LineFault.TheVariants.{WrongLength}
use Rattle.lines.specs.Places.{Place, place_reading, stands}
use Rattle.labels.specs.declared.header.Hdr1.{Hdr1}
use Rattle.labels.specs.declared.header.Hdr1Context.{Hdr1Context}
use Rattle.labels.specs.declared.user.Uhl1.{Uhl1}
use Rattle.labels.specs.declared.user.Uhl1Context.{Uhl1Context}
use Rattle.labels.specs.Headers.{hdr1_layout, hdr1_place, hdr2, hdr2_place, header as header_says}
use Rattle.labels.specs.Users.{in_order, labelled, processing_day, uhl1_layout, uhl1_place, work}
use Rattle.labels.specs.Volumes.{OwnerSays, Vol1Says, has_sun, owner_says, vol1_marked, vol1_place, vol1_sun, volume as volume_says}
use Rattle.labels.specs.Volumes.OwnerSays.{numbered, marked}
use Rattle.grammar.specs.Headings.{Setting, user_places}
use Rattle.grammar.specs.Next.{Said, names_multi, top}
use Rattle.grammar.specs.Next.Next.{comes}
use Rattle.grammar.specs.Next.Paid.{none}
use Rattle.grammar.specs.Next.Said.{start, volume, header, sized, paid}
use Rattle.grammar.specs.Reading.{line_said, step}
use Rattle.taking.specs.Taking.{if_open, open_at}
use Rattle.taking.proofs.LookedUp.{looked_up, open_in_line}
use Rattle.taking.proofs.Stepping.{Agrees, line_reads, line_wrong, reading_as, table_agrees}

module _ (g : Setting) (n : ℕ) (bytes : List ℕ) where
  -- VOL1

  abbrev after_volume : Vol1Says → Said
  after_volume v = volume v.owner v.serial

  abbrev volume_next : Bool → Place Said
  volume_next b = cond b (stands vol1_sun (λ s free n. volume (numbered n) s)) (stands vol1_marked (λ s free m. volume (marked m) s))

  abbrev volume_place : Bool → Place Vol1Says
  volume_place b = cond b (stands vol1_sun (λ s free n. volume_says (numbered n) s)) (stands vol1_marked (λ s free m. volume_says (marked m) s))

  volume_reads : (b : Bool) (l : List ℕ) → length l ≡ 80 → line_said (comes (volume_next b)) l ≡ result_map_both after_volume (λ e. e) (place_reading (volume_place b) l)
  volume_reads true l h = line_reads (volume_next true) l h ∙ reading_as after_volume vol1_sun _ _ (λ v. refl) l
  volume_reads false l h = line_reads (volume_next false) l h ∙ reading_as after_volume vol1_marked _ _ (λ v. refl) l

  volume_wrong : (b : Bool) (l : List ℕ) → (length l ≡ 80 → ⊥) → line_said (comes (volume_next b)) l ≡ Err (Line WrongLength)
  volume_wrong true l h = line_wrong (volume_next true) l h
  volume_wrong false l h = line_wrong (volume_next false) l h

  pub volume_agrees : Agrees g n start 80 after_volume (λ l. place_reading (vol1_place l) l) bytes
  unfolding step
  volume_agrees = record { same = λ l tail is h. volume_reads (has_sun l) l h; other = λ l tail is h. volume_wrong (has_sun l) l h; ends = refl }

  -- HDR1

  pub header_agrees : (k : Hdr1Context) → Agrees g n (volume (owner_says k.owner) k.serial) 80 (header (owner_says k.owner) k.serial) (λ l. place_reading (hdr1_place k) l) bytes
  header_agrees k = by_owner k.owner k.serial
    where
      by_owner : (o : Owner) (s : List ℕ) → Agrees g n (volume (owner_says o) s) 80 (header (owner_says o) s) (λ l. place_reading (hdr1_place (record { owner = o; serial = s })) l) bytes
      by_owner (Sun m) s =
          table_agrees g n (volume (numbered m) s) 80 bytes (header (numbered m) s) (hdr1_layout (user_places (numbered m)) s) header_says
          (λ u v w again x y c e a. header (numbered m) s (header_says u v w again x y c e a)) (λ l tail is. refl) refl (λ v. refl) refl
      by_owner (Marked m) s =
          table_agrees g n (volume (owner_says (Marked m)) s) 80 bytes (header (owner_says (Marked m)) s) (hdr1_layout (user_places (owner_says (Marked m))) s) header_says
          (λ u v w again x y c e a. header (owner_says (Marked m)) s (header_says u v w again x y c e a)) (λ l tail is. refl) refl (λ v. refl) refl

  -- HDR2

  pub size_agrees : (o : OwnerSays) (s : List ℕ) (h : Hdr1) → Agrees g n (header o s h) 80 (λ long. sized o s h (names_multi long)) (λ l. place_reading (hdr2_place g.service) l) bytes
  size_agrees o s h =
      table_agrees g n (header o s h) 80 bytes (λ long. sized o s h (names_multi long)) (hdr2 g.service) (λ long. long)
      (λ long. sized o s h (names_multi long)) (λ l tail is. refl) refl (λ v. refl) refl

  -- UHL1

  module _ (o : OwnerSays) (s : List ℕ) (h : Hdr1) (multi : Bool) where
    abbrev test : ℕ → Bool
    test = in_order g.service g.opening h.creation h.expiry

    abbrev after_labels : Uhl1 → Said
    after_labels u = paid (top o s h multi u.processing u.number) h.free none

    abbrev labels_place : (ℕ → Bool) → Place Uhl1
    labels_place opens = stands (uhl1_layout (processing_day g.service g.opening h.creation h.expiry opens) (work g.service multi)) (λ d code n audit spare. labelled d n)

    by_flag : (l : List ℕ) (flag : Bool) → flag ≡ if_open g.opens (read_form dates (part 4 10 l)) → place_reading (labels_place g.opens) l ≡ place_reading (labels_place (λ _. flag)) l
    by_flag l flag e = let day = looked_up test g.opens 4 l flag e in simp day

    -- by whether the day that stands there is open
    abbrev pub user_context : Bool → Uhl1Context
    user_context usable = record { service = g.service; opening = g.opening; creation = h.creation; expiry = h.expiry; multi = multi; «open» = usable }

    by_set : Agrees g n (sized o s h multi) 80 after_labels (λ l. place_reading (labels_place g.opens) l) bytes
    by_set =
        table_agrees g n (sized o s h multi) 80 bytes after_labels (labels_place g.opens).table (λ d code n audit spare. labelled d n)
        (λ d code n audit spare. after_labels (labelled d n)) (λ l tail is. refl) refl (λ v. refl) refl

    pub user_agrees : (usable : Bool) → usable ≡ open_at g.opens 4 bytes → Agrees g n (sized o s h multi) 80 after_labels (λ l. place_reading (uhl1_place (user_context usable)) l) bytes
    user_agrees usable known = record {
      same = λ l tail is w.
          let late : 4 + 6 ≤ length l = omega arith in
          by_set.same l tail is w
          ∙ ap (result_map_both after_labels (λ e. e)) (by_flag l usable (known ∙ ap (open_at g.opens 4) is ∙ open_in_line g.opens 4 l (10 ∷ tail) late));
      other = by_set.other;
      ends = refl;
    }
