-- The labels after the batches, taken off the bytes one by one.
use Rattle.std.proofs.Common.{◌≡◌, ℕ, Bool, false, not, ◌&&◌, List, sym, refl, ap, ◌∙◌}
use Rattle.std.proofs.lemmas.Bool.{cond-false}
use Rattle.lines.specs.Places.{place_reading}
use Rattle.labels.specs.declared.header.Hdr1Free.{Hdr1Free}
use Rattle.trailers.specs.Closings.{eof2, eof2_place, utl1, utl1_place}
use Rattle.trailers.specs.Repeats.{eof1, eof1_place}
use Rattle.records.specs.Payments.{OriginatorSays}
use Rattle.grammar.specs.Headings.{Batch, Heading, Setting, Top, closing_of, header_of}
use Rattle.grammar.specs.Next.{heading, is_eof1}
use Rattle.grammar.specs.Next.Next.{comes}
use Rattle.grammar.specs.Next.Paid.{closed}
use Rattle.grammar.specs.Next.Said.{ended1, ended2, paid, whole}
use Rattle.taking.proofs.Peeks.{eof1_peek}
use Rattle.taking.proofs.Stepping.{Agrees, table_agrees}

module _ (g : Setting) (n : ℕ) (f : Hdr1Free) (bs : List Batch) (bytes : List ℕ) where
  pub eof1_agrees : (t : Top) (o : OriginatorSays) (m : List ℕ) → (t.multi && not (is_eof1 bytes)) ≡ false → Agrees g n (paid t f (closed o m bs)) 80 (λ _. ended1 (heading t o m) f bs) (λ l. place_reading (eof1_place (record { serial = t.serial; header = header_of t f })) l) bytes
  eof1_agrees t o m last =
      table_agrees g n (paid t f (closed o m bs)) 80 bytes (λ _. ended1 (heading t o m) f bs) (eof1 t.serial (header_of t f)) (λ u v w s x y c e a. tt)
      (λ u v w s x y c e a. ended1 (heading t o m) f bs)
      (λ l tail is. ap comes (cond-false (t.multi && not (is_eof1 l)) _ _ (ap (λ (b : Bool). t.multi && not b) (sym (eof1_peek l tail) ∙ ap is_eof1 (sym is)) ∙ last)))
      refl (λ v. refl) refl

  module _ (h : Heading) where
    pub eof2_agrees : Agrees g n (ended1 h f bs) 80 (λ _. ended2 h f bs) (λ l. place_reading (eof2_place (record { multi = h.top.multi })) l) bytes
    eof2_agrees = table_agrees g n (ended1 h f bs) 80 bytes (λ _. ended2 h f bs) (eof2 h.top.multi) (λ long. tt) (λ long. ended2 h f bs) (λ l tail is. refl) refl (λ v. refl) refl

    pub utl1_agrees : Agrees g n (ended2 h f bs) 80 (λ _. whole h f bs) (λ l. place_reading (utl1_place (closing_of g.service bs)) l) bytes
    utl1_agrees =
        table_agrees g n (ended2 h f bs) 80 bytes (λ _. whole h f bs) (utl1 (closing_of g.service bs)) (λ dt ct dc cc. tt) (λ dt ct dc cc. whole h f bs) (λ l tail is. refl) refl (λ v. refl) refl
