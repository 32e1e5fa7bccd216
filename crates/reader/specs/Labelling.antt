-- The labels before the batches, as they are kept while a file is read.
use Rattle.labels.specs.Volumes.{owner_says}
use Rattle.grammar.specs.Headings.{Top}
use Rattle.grammar.specs.Next.{Said, top}
use Rattle.grammar.specs.Next.Paid.{none}
use Rattle.grammar.specs.Next.Said.{paid}
use Rattle.reader.specs.declared.label_values.Labels.{Labels}

abbrev pub labels_top : Labels → Top
labels_top l = top (owner_says l.owner) l.serial l.header l.multi l.processing l.number

-- what is said after the labels
abbrev pub after_labels : Labels → Said
after_labels l = paid (labels_top l) l.header.free none
