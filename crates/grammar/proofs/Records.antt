-- The records: a line is one of the table that stands there exactly if it is the line of contents that fit there.
use Rattle.std.proofs.Common.{◌≡◌, ℕ, ◌^◌, ◌<◌, Bool, true, false, List, [], ◌∷◌, Some, None, Option, sym, refl, ap, ◌∙◌, subst}
use Rattle.std.specs.Option.{option_map as if_some}
use Rattle.std.proofs.lemmas.Slice.Eq.{bytes_eq-Decides}
use Rattle.std.proofs.lemmas.Bool.{eq-eqb, eqb-true}
use Rattle.terms.specs.declared.service.Service.{Service}
use Rattle.tables.specs.Forms.{Within}
use Rattle.tables.specs.Forms.Form.{dates}
use Rattle.tables.specs.Kinds.{Allowed}
use Rattle.tables.specs.Lines.{AllAllowed, Table, Values, at_values, line}
use Rattle.lines.specs.Places.{LineOf, Place}
use Rattle.places.specs.Given.{day_given, digits_given, filled_given, text_given}
use Rattle.records.specs.Contras.{contra_layout}
use Rattle.records.specs.Payments.{OriginatorSays, payment_layout}
use Rattle.grammar.specs.Files.{EntryFits, OriginatorFits, contra_image, payment_image}
use Rattle.grammar.specs.Headings.{Batch, Entry, Setting, batch_total}
use Rattle.grammar.specs.Next.{Fixed, Said, closing, entry, open_of, originator, paying, payment_day}
use Rattle.grammar.proofs.Contents.{day_fits, same_bytes}

-- Every line of a place, with what is said then, is so.

abbrev pub Each : Place Said → (List ℕ → Said → Type 0) → Type 0
Each p P = (v : Values p.table) → AllAllowed p.table v → P (line p.table v) (at_values Said p.table p.make v)

pub at_line : (p : Place Said) (P : List ℕ → Said → Type 0) → Each p P → (l : List ℕ) (to : Said) → LineOf p l to → P l to
at_line p P each l to d =
    subst (λ (z : List ℕ). P z to) (sym d.is_line.is) (subst (P (line p.table d.values)) d.says (each d.values d.is_line.allowed))

-- The originator of a payment, where one may be fixed.

pub record Payer (g : Service) (from : Option OriginatorSays) (o : OriginatorSays) : Type 0 where
  pub sort_code : Allowed (digits_given 6 (if_some (λ x. x.sort_code) from)) o.sort_code
  pub account : Allowed (digits_given 8 (if_some (λ x. x.account) from)) o.account
  pub name : Allowed (filled_given g (if_some (λ x. x.name) from)) o.name

module _ (g : Service) where
  pub first_payer : (o : OriginatorSays) → OriginatorFits g o → Payer g None o
  first_payer o a = record { sort_code = a.sort_code; account = a.account; name = a.name }

  pub payer_fits : (o : OriginatorSays) → Payer g None o → OriginatorFits g o
  payer_fits o a = record { sort_code = a.sort_code; account = a.account; name = a.name }

  pub same_payer : (o : OriginatorSays) → OriginatorFits g o → Payer g (Some o) o
  same_payer o a = record {
    sort_code = (a.sort_code.0, (eq-eqb o.sort_code o.sort_code refl, tt));
    account = (a.account.0, (eq-eqb o.account o.account refl, tt));
    name = (a.name.0, (same_bytes o.name, tt));
  }

  pub payer_same : (o q : OriginatorSays) → Payer g (Some o) q → q ≡ o
  payer_same o q a =
      ap (λ (n : ℕ). originator n q.account q.name) (eqb-true q.sort_code o.sort_code a.sort_code.1.0)
      ∙ ap (λ (n : ℕ). originator o.sort_code n q.name) (eqb-true q.account o.account a.account.1.0)
      ∙ ap (λ (bs : List ℕ). originator o.sort_code o.account bs) ((bytes_eq-Decides q.name o.name).0 a.name.1.0)

-- Payments.

abbrev pub payment_values : (g : Service) (from : Option OriginatorSays) (t : Table) → OriginatorSays → Entry → Values t → Values (payment_layout g from t)
payment_values g from t o e rest =
    (e.sort_code, (e.account, (e.code, (o.sort_code, (o.account, (e.free_format, (e.amount, (o.name, (e.reference, (e.name, rest))))))))))

pub payment_allowed : (g : Service) (from : Option OriginatorSays) (t : Table) (o : OriginatorSays) (e : Entry) (rest : Values t) → Payer g from o → EntryFits g e → AllAllowed t rest → AllAllowed (payment_layout g from t) (payment_values g from t o e rest)
payment_allowed g from t o e rest a k later =
    (k.sort_code, (k.account, (k.code, (a.sort_code, (a.account, (k.free_format, (k.amount, (a.name, (k.reference, (k.name, later))))))))))

-- the day that a payment says: in a single-day file the processing day
abbrev pub DaySaid : Setting → Bool → ℕ → Fixed → ℕ → Type 0
DaySaid g true d x day = Allowed (payment_day g d x) day
DaySaid g false d x day = day ≡ d

module _ (g : Setting) (multi : Bool) (d : ℕ) (x : Fixed) (add : OriginatorSays → Entry → ℕ → Said) where
  pub payment_line : (o : OriginatorSays) (e : Entry) (day : ℕ) → Payer g.service x.originator o → EntryFits g.service e → DaySaid g multi d x day → LineOf (paying g multi d x add) (payment_image multi o day e) (add o e day)
  payment_line o e day a k b = by_size multi b
    where
      by_size : (multi : Bool) → DaySaid g multi d x day → LineOf (paying g multi d x add) (payment_image multi o day e) (add o e day)
      by_size true b = record {
        values = payment_values g.service x.originator (payment_day g d x ∷ []) o e (day, tt);
        is_line = record { allowed = payment_allowed g.service x.originator (payment_day g d x ∷ []) o e (day, tt) a k (b, tt); is = refl };
        says = refl;
      }
      by_size false b = record {
        values = payment_values g.service x.originator [] o e tt;
        is_line = record { allowed = payment_allowed g.service x.originator [] o e tt a k tt; is = refl };
        says = ap (add o e) (sym b);
      }

  pub each_payment : (P : List ℕ → Said → Type 0) → ((o : OriginatorSays) (e : Entry) (day : ℕ) → Payer g.service x.originator o → EntryFits g.service e → DaySaid g multi d x day → P (payment_image multi o day e) (add o e day)) → Each (paying g multi d x add) P
  each_payment P h = by_size multi h
    where
      by_size : (multi : Bool) → ((o : OriginatorSays) (e : Entry) (day : ℕ) → Payer g.service x.originator o → EntryFits g.service e → DaySaid g multi d x day → P (payment_image multi o day e) (add o e day)) → Each (paying g multi d x add) P
      by_size true h (s, (a, (c, (from_s, (from_a, (f, (n, (from_name, (r, (m, (day, u))))))))))) (ks, (ka, (kc, (ko, (kb, (kf, (kn, (kname, (kr, (km, (kday, w))))))))))) =
          h (originator from_s from_a from_name) (entry s a c f n r m) day (record { sort_code = ko; account = kb; name = kname })
          (record { sort_code = ks; account = ka; code = kc; free_format = kf; amount = kn; reference = kr; name = km }) kday
      by_size false h (s, (a, (c, (from_s, (from_a, (f, (n, (from_name, (r, (m, u)))))))))) (ks, (ka, (kc, (ko, (kb, (kf, (kn, (kname, (kr, (km, w)))))))))) =
          h (originator from_s from_a from_name) (entry s a c f n r m) d (record { sort_code = ko; account = kb; name = kname })
          (record { sort_code = ks; account = ka; code = kc; free_format = kf; amount = kn; reference = kr; name = km }) refl

-- Contras.

abbrev pub contra_values : (g : Service) (o : OriginatorSays) (total : ℕ) (narrative : Option (List ℕ)) (n : List ℕ) (t : Table) → Values t → Values (contra_layout g o total narrative t)
contra_values g o total narrative n t rest = (o.sort_code, (o.account, (o.sort_code, (o.account, (total, (n, (o.name, rest)))))))

pub contra_allowed : (g : Service) (o : OriginatorSays) (total : ℕ) (narrative : Option (List ℕ)) (n : List ℕ) (t : Table) (rest : Values t) → OriginatorFits g o → total < 10 ^ 11 → Allowed (text_given g narrative) n → AllAllowed t rest → AllAllowed (contra_layout g o total narrative t) (contra_values g o total narrative n t rest)
contra_allowed g o total narrative n t rest a l k later =
    let s = same_payer g o a in
    (s.sort_code, (s.account, (s.sort_code, (s.account, ((l, (eq-eqb total total refl, tt)), (k, (s.name, later)))))))

-- in a multi-day file the day of a batch is one that can be written
abbrev pub Dated : Bool → ℕ → Type 0
Dated true day = Within dates day
Dated false day = Unit {0}

module _ (g : Setting) (o : OriginatorSays) (b : Batch) (narrative : Option (List ℕ)) (add : List ℕ → Said) where
  pub contra_line : (multi : Bool) (n : List ℕ) → OriginatorFits g.service o → batch_total b < 10 ^ 11 → Allowed (text_given g.service narrative) n → Dated multi b.day → LineOf (closing g multi o (open_of b) narrative add) (contra_image g.service multi o n b) (add n)
  contra_line true n a l k d =
      let t : Table = day_given [] (Some b.day) ∷ [] in
      record {
        values = contra_values g.service o (batch_total b) narrative n t (b.day, tt);
        is_line = record { allowed = contra_allowed g.service o (batch_total b) narrative n t (b.day, tt) a l k (day_fits b.day d, tt); is = refl };
        says = refl;
      }
  contra_line false n a l k d = record {
    values = contra_values g.service o (batch_total b) narrative n [] tt;
    is_line = record { allowed = contra_allowed g.service o (batch_total b) narrative n [] tt a l k tt; is = refl };
    says = refl;
  }

  pub each_contra : (P : List ℕ → Said → Type 0) (multi : Bool) → ((n : List ℕ) → Allowed (text_given g.service narrative) n → batch_total b < 10 ^ 11 → P (contra_image g.service multi o n b) (add n)) → Each (closing g multi o (open_of b) narrative add) P
  each_contra P true h (s, (a, (from_s, (from_a, (total, (n, (name, (day, u)))))))) (ks, (ka, (kfs, (kfa, (kt, (kn, (kname, (kday, w)))))))) =
      let e1 : s ≡ o.sort_code = eqb-true s o.sort_code ks.1.0 in
      let e2 : a ≡ o.account = eqb-true a o.account ka.1.0 in
      let e3 : from_s ≡ o.sort_code = eqb-true from_s o.sort_code kfs.1.0 in
      let e4 : from_a ≡ o.account = eqb-true from_a o.account kfa.1.0 in
      let e5 : total ≡ batch_total b = eqb-true total (batch_total b) kt.1.0 in
      let e6 : name ≡ o.name = (bytes_eq-Decides name o.name).0 kname.1.0 in
      let e7 : day ≡ b.day = eqb-true day b.day kday.1.0 in
      let t : Table = day_given [] (Some b.day) ∷ [] in
      let same : contra_image g.service true o n b ≡ line (contra_layout g.service o (batch_total b) narrative t) (s, (a, (from_s, (from_a, (total, (n, (name, (day, tt)))))))) = cc in
      subst (λ (l : List ℕ). P l (add n)) same (h n kn (subst (λ (k : ℕ). k < 10 ^ 11) e5 kt.0))
  each_contra P false h (s, (a, (from_s, (from_a, (total, (n, (name, u))))))) (ks, (ka, (kfs, (kfa, (kt, (kn, (kname, w))))))) =
      let e1 : s ≡ o.sort_code = eqb-true s o.sort_code ks.1.0 in
      let e2 : a ≡ o.account = eqb-true a o.account ka.1.0 in
      let e3 : from_s ≡ o.sort_code = eqb-true from_s o.sort_code kfs.1.0 in
      let e4 : from_a ≡ o.account = eqb-true from_a o.account kfa.1.0 in
      let e5 : total ≡ batch_total b = eqb-true total (batch_total b) kt.1.0 in
      let e6 : name ≡ o.name = (bytes_eq-Decides name o.name).0 kname.1.0 in
      let same : contra_image g.service false o n b ≡ line (contra_layout g.service o (batch_total b) narrative []) (s, (a, (from_s, (from_a, (total, (n, (name, tt))))))) = cc in
      subst (λ (l : List ℕ). P l (add n)) same (h n kn (subst (λ (k : ℕ). k < 10 ^ 11) e5 kt.0))
