-- The laws of files.
use Rattle.std.proofs.Common.{◌≡◌, ℕ, ◌+◌, true, ◌⊎◌, List, [], ◌∷◌, ◌++◌, length, Result, sym, refl, ap, ◌∙◌, subst, inl, inr, append-nil, arith}
use Rattle.std.proofs.ByRecursion.{All-append}
use Rattle.lines.specs.declared.fault.Fault.{Fault}
use Rattle.lines.specs.declared.fault.FileFault.{FileFault}
use Rattle.lines.specs.Faults.{numbered}
use Rattle.lines.specs.Feeds.{plain}
use Rattle.places.proofs.Unbroken.{PlainLines}
use Rattle.labels.specs.declared.header.Hdr1Free.{Hdr1Free}
use Rattle.labels.specs.Headers.{no_free}
use Rattle.fields.specs.Words.{is_spare_text}
use Rattle.grammar.specs.Cuts.{Cut, cut, feeds}
use Rattle.grammar.specs.Faults.{EndFaulty, FirstFileFault, NextFaulty}
use Rattle.grammar.specs.Files.{Belongs, FileFits, LabelsFit, Spare, file_lines, lines_of}
use Rattle.grammar.specs.Headings.{Batch, Heading, Setting, Top}
use Rattle.grammar.specs.Laws.{MeaningLaw, ReadingLaw, SomeFault, SomeFile, WritingLaw, no_spare, written}
use Rattle.grammar.specs.Next.{Said, next}
use Rattle.grammar.specs.Next.Said.{start, volume, header, sized, paid, ended1, ended2, whole}
use Rattle.grammar.specs.Reading.{Outcome, finish, onward, reading, reading_on, step, walk}
use Rattle.grammar.specs.Reading.Outcome.{accepted, refused}
use Rattle.grammar.proofs.Cuts.{cut_feeds, cut_plain, cut_whole}
use Rattle.grammar.proofs.Judged.{fault_says}
use Rattle.grammar.proofs.Reach.{reach}
use Rattle.grammar.proofs.Sound.{Explained, Faulty, Read, walk_sound}
use Rattle.grammar.proofs.Unbroken.{lines_plain}

module _ (g : Setting) where
  read_lines : (ls : List (List ℕ)) (rest : List ℕ) → PlainLines ls → plain rest ≡ true → reading g (feeds ls ++ rest) ≡ walk g 1 start ls rest
  unfolding reading_on
  read_lines ls rest h k = ap (λ (c : Cut). walk g 1 start c.lines c.rest) (cut_feeds ls rest h k)

  explained : (bytes : List ℕ) → Explained g (reading g bytes) (cut bytes).lines (cut bytes).rest
  unfolding reading_on lines_of
  explained bytes = walk_sound g (cut bytes).lines 1 no_spare start (cut bytes).rest tt refl (cut_plain bytes).lines

  -- Accepted.

  to_file : (bytes : List ℕ) (h : Heading) (bs : List Batch) → reading g bytes ≡ accepted h bs → Belongs g h bs bytes
  unfolding lines_of
  to_file bytes h bs e =
      let r : Read g h bs (cut bytes).lines (cut bytes).rest = subst (λ (o : Outcome). Explained g o (cut bytes).lines (cut bytes).rest) e (explained bytes) in
      record {
        free = r.free;
        spare = r.spare;
        fits = r.fits;
        is = sym (cut_whole bytes) ∙ ap (λ (x : List ℕ). feeds (cut bytes).lines ++ x) r.no_rest ∙ append-nil (feeds (cut bytes).lines) ∙ ap feeds r.is;
      }

  whole_read : (h : Heading) (f : Hdr1Free) (x : Spare) (bs : List Batch) → FileFits g h f x bs → reading g (feeds (file_lines g h f x bs)) ≡ accepted h bs
  unfolding walk lines_of
  whole_read h f x bs a =
      let ls = file_lines g h f x bs in
      ap (reading g) (sym (append-nil (feeds ls)))
      ∙ read_lines ls [] (lines_plain g x (whole h f bs) a) refl
      ∙ ap (λ (l : List (List ℕ)). walk g 1 start l []) (sym (append-nil ls))
      ∙ (reach g x (whole h f bs) a).on 1 [] []

  from_file : (bytes : List ℕ) (h : Heading) (bs : List Batch) → Belongs g h bs bytes → reading g bytes ≡ accepted h bs
  from_file bytes h bs b = ap (reading g) b.is ∙ whole_read h b.free b.spare bs b.fits

  -- Refused.

  to_fault : (bytes : List ℕ) (f : Fault) → reading g bytes ≡ refused f → FirstFileFault g bytes f
  to_fault bytes f e =
      let r : Faulty g f (cut bytes).lines (cut bytes).rest = subst (λ (o : Outcome). Explained g o (cut bytes).lines (cut bytes).rest) e (explained bytes) in
      record {
        said = r.said;
        spare = r.spare;
        fits = r.fits;
        lines = r.more;
        rest = (cut bytes).rest;
        lines_plain = r.more_plain;
        rest_plain = (cut_plain bytes).rest;
        is = sym (cut_whole bytes) ∙ ap (λ (x : List (List ℕ)). feeds x ++ (cut bytes).rest) r.is;
        fault = r.fault;
        first = r.first;
        located = r.located;
      }

  module _ (n : ℕ) (e : FileFault) where
    -- the fault d is the one of the outcome
    named : (d : FileFault) → e ≡ d → ◌≡◌ {A = Outcome} (refused (numbered d n)) (refused (numbered e n))
    named d h = ap (λ (c : FileFault). refused (numbered c n)) (sym h)

    fault_finish : (s : Said) (rest : List ℕ) → EndFaulty s rest e → finish n s rest ≡ refused (numbered e n)
    fault_finish start rest h = named _ h
    fault_finish (volume o s) rest h = named _ h
    fault_finish (header o s k) rest h = named _ h
    fault_finish (sized o s k multi) rest h = named _ h
    fault_finish (paid t f p) rest h = named _ h
    fault_finish (ended1 k f bs) rest h = named _ h
    fault_finish (ended2 k f bs) rest h = named _ h
    fault_finish (whole k f bs) [] h = absurd h
    fault_finish (whole k f bs) (b ∷ rest) h = named _ h

    fault_walk : (s : Said) (ls : List (List ℕ)) (rest : List ℕ) → NextFaulty g s ls rest e → walk g n s ls rest ≡ refused (numbered e n)
    unfolding walk step
    fault_walk s [] rest h = fault_finish s rest h
    fault_walk s (l ∷ ls) rest h = ap (λ (r : Result Said FileFault). onward n r (λ to. walk g (n + 1) to ls rest)) (fault_says (next g s l) l e h)

  from_fault : (bytes : List ℕ) (f : Fault) → FirstFileFault g bytes f → reading g bytes ≡ refused f
  from_fault bytes f b =
      let ls = lines_of g b.spare b.said in
      ap (reading g) b.is
      ∙ read_lines (ls ++ b.lines) b.rest (All-append (λ l. plain l ≡ true) ls b.lines (lines_plain g b.spare b.said b.fits) b.lines_plain) b.rest_plain
      ∙ (reach g b.spare b.said b.fits).on 1 b.lines b.rest
      ∙ fault_walk (1 + length ls) b.fault b.said b.lines b.rest b.first
      ∙ ap (λ (n : ℕ). refused (numbered b.fault n)) (omega arith)
      ∙ ap refused (sym b.located)

  -- One meaning.

  either_way : (bytes : List ℕ) (o : Outcome) → reading g bytes ≡ o → SomeFile g bytes ⊎ SomeFault g bytes
  either_way bytes (accepted h bs) e = inl (h, bs, to_file bytes h bs e)
  either_way bytes (refused f) e = inr (f, to_fault bytes f e)

apart : (o : Outcome) (h : Heading) (bs : List Batch) (f : Fault) → o ≡ accepted h bs → o ≡ refused f → ⊥
apart o h bs f p q = let z : ◌≡◌ {A = ℕ} 0 1 = cc in omega arith

same_file : (o : Outcome) (h k : Heading) (bs cs : List Batch) → o ≡ accepted h bs → o ≡ accepted k cs → (h ≡ k) × (bs ≡ cs)
same_file o h k bs cs p q = (cc, cc)

same_fault : (o : Outcome) (e f : Fault) → o ≡ refused e → o ≡ refused f → e ≡ f
same_fault o e f p q = cc

pub reading_law : ReadingLaw
reading_law g bytes = record {
  accepts = λ h bs. (to_file g bytes h bs, from_file g bytes h bs);
  refuses = λ f. (to_fault g bytes f, from_fault g bytes f);
}

pub meaning_law : MeaningLaw
meaning_law g bytes = record {
  either = either_way g bytes (reading g bytes) refl;
  never_both = λ a b. apart (reading g bytes) a.0 a.1 b.0 (from_file g bytes a.0 a.1 a.2) (from_fault g bytes b.0 b.1);
  one_file = λ h k bs cs a b. same_file (reading g bytes) h k bs cs (from_file g bytes h bs a) (from_file g bytes k cs b);
  one_fault = λ e f a b. same_fault (reading g bytes) e f (from_fault g bytes e a) (from_fault g bytes f b);
}

-- Spaces fit in the free places wherever anything does.

blank_labels : (g : Setting) (t : Top) (f : Hdr1Free) (x : Spare) → LabelsFit g t f x → LabelsFit g t no_free no_spare
unfolding is_spare_text
blank_labels g t f x a =
    let k = a.sized in
    record {
      sized = record {
        volume = record { owner = k.volume.owner; serial = k.volume.serial; access = (refl, (refl, tt)) };
        header = record {
          user = (refl, (refl, tt));
          version = (refl, (refl, tt));
          user_again = (refl, (refl, tt));
          spare4 = (refl, (refl, tt));
          spare2 = (refl, (refl, tt));
          creation = k.header.creation;
          expiry = k.header.expiry;
          access = (refl, (refl, tt));
        };
        size = k.size;
      };
      processing = a.processing;
      number = a.number;
      audit = (refl, (refl, tt));
      spare = (refl, (refl, tt));
    }

blank_fits : (g : Setting) (h : Heading) (f : Hdr1Free) (x : Spare) (bs : List Batch) → FileFits g h f x bs → FileFits g h no_free no_spare bs
blank_fits g h f x bs a =
    let k = a.closed in
    record {
      closed = record {
        heading = record { labels = blank_labels g h.top f x k.heading.labels; originator = k.heading.originator; narrative = k.heading.narrative };
        batches = k.batches;
        some = k.some;
      };
      total = a.total;
      debits = a.debits;
      credits = a.credits;
    }

pub writing_law : WritingLaw
unfolding written
writing_law g h f x bs a =
    let b = blank_fits g h f x bs a in
    (record { free = no_free; spare = no_spare; fits = b; is = refl }, whole_read g h no_free no_spare bs b)
