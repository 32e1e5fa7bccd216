-- Each label that is read leads the reading of the file on to the bytes behind it, and a fault in one is the file's.
use Rattle.std.proofs.Common.{rules, length, drop, sym, ap, ◌∙◌, arith}
use Rattle.std.proofs.lemmas.List.{drop-drop, length-drop}
use Rattle.labels.specs.declared.header.Hdr1Context.{Hdr1Context}
use Rattle.labels.specs.Volumes.{owner_says}
use Rattle.taking.proofs.LabelSteps.{header_agrees, size_agrees, user_agrees, user_context, volume_agrees}
use Rattle.taking.proofs.Stepping.{failed, went}
use Rattle.reader.specs.Settings.{setting}
use Rattle.reader.proofs.LabelReading.{behind_three, processing_within, to_header, to_size, to_user}
use Rattle.reader.proofs.read_labels.read_labels.Goals as goal

pub returns-in_err-owner-clause-value : goal.returns-in_err-owner-clause-value
returns-in_err-owner-clause-value g c =
    let s = setting c.args.service c.args.opening (g.C.Calendar.opens c.args.calendar.now) in
    search (rules, failed (volume_agrees s 1 c.args.bytes.now) _ c.in_err-owner.ensures.value)

pub returns-in_err-header-clause-value : goal.returns-in_err-header-clause-value
returns-in_err-header-clause-value g c =
    let s = setting c.args.service c.args.opening (g.C.Calendar.opens c.args.calendar.now) in
    let k : Hdr1Context = record { owner = c.in_ok-owner.field-0-0.owner; serial = c.in_ok-owner.field-0-0.serial } in
    let one = c.in_ok-owner.ensures in
    search (rules, to_header s k c.args.bytes.now one.behind one.value ∙ failed (header_agrees s 2 c.in_ok-owner.after_volume.now k) _ c.in_err-header.ensures.value)

pub returns-in_err-multi-clause-value : goal.returns-in_err-multi-clause-value
returns-in_err-multi-clause-value g c =
    let s = setting c.args.service c.args.opening (g.C.Calendar.opens c.args.calendar.now) in
    let k : Hdr1Context = record { owner = c.in_ok-owner.field-0-0.owner; serial = c.in_ok-owner.field-0-0.serial } in
    let one = c.in_ok-owner.ensures in
    let two = c.in_ok-header.ensures in
    let refused =
    to_size s k c.args.bytes.now one.behind one.value two.behind two.value
    ∙ failed (size_agrees s 3 c.in_ok-header.after_header.now (owner_says k.owner) k.serial c.in_ok-header.header) _ c.in_err-multi.ensures.value in
    search (rules, refused)

pub returns-in_err-processing-clause-value : goal.returns-in_err-processing-clause-value
returns-in_err-processing-clause-value g c =
    let s = setting c.args.service c.args.opening (g.C.Calendar.opens c.args.calendar.now) in
    let k : Hdr1Context = record { owner = c.in_ok-owner.field-0-0.owner; serial = c.in_ok-owner.field-0-0.serial } in
    let m = c.in_ok-multi.field-0-0.multi in
    let one = c.in_ok-owner.ensures in
    let two = c.in_ok-header.ensures in
    let three = c.in_ok-multi.ensures in
    let refused =
    to_user s k c.args.bytes.now one.behind one.value two.behind two.value m three.behind three.value
    ∙ failed (user_agrees s 4 c.in_ok-multi.after_size.now (owner_says k.owner) k.serial c.in_ok-header.header m c.opens_day_at.result c.opens_day_at.ensures) _ c.in_err-processing.ensures.value in
    search (rules, refused)

pub invariant_of-result : goal.invariant_of-result
invariant_of-result g c =
    let s = setting c.args.service c.args.opening (g.C.Calendar.opens c.args.calendar.now) in
    let bytes = c.in_ok-multi.after_size.now in
    let k = user_context s 4 bytes (owner_says c.in_ok-owner.field-0-0.owner) c.in_ok-owner.field-0-0.serial c.in_ok-header.header c.in_ok-multi.field-0-0.multi c.opens_day_at.result in
    record { dated = processing_within k 4 bytes _ c.in_ok-processing.ensures.value }

pub returns-clause-value : goal.returns-clause-value
returns-clause-value g c =
    let s = setting c.args.service c.args.opening (g.C.Calendar.opens c.args.calendar.now) in
    let k : Hdr1Context = record { owner = c.in_ok-owner.field-0-0.owner; serial = c.in_ok-owner.field-0-0.serial } in
    let m = c.in_ok-multi.field-0-0.multi in
    let one = c.in_ok-owner.ensures in
    let two = c.in_ok-header.ensures in
    let three = c.in_ok-multi.ensures in
    let behind = sym (drop-drop 81 243 c.args.bytes.now) ∙ ap (drop 81) (sym (behind_three c.args.bytes.now one.behind two.behind three.behind)) in
    to_user s k c.args.bytes.now one.behind one.value two.behind two.value m three.behind three.value
    ∙ went (user_agrees s 4 c.in_ok-multi.after_size.now (owner_says k.owner) k.serial c.in_ok-header.header m c.opens_day_at.result c.opens_day_at.ensures) _ _ behind c.in_ok-processing.ensures.value

pub returns-clause-within : goal.returns-clause-within
returns-clause-within g c =
    let third = behind_three c.args.bytes.now c.in_ok-owner.ensures.behind c.in_ok-header.ensures.behind c.in_ok-multi.ensures.behind in
    omega (arith, ap length third, length-drop 243 c.args.bytes.now, c.in_ok-processing.ensures.within)
