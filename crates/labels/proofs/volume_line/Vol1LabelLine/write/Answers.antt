use Rattle.std.proofs.Common.{◌≡◌, ◌∙◌, rules}
use Rattle.places.proofs.Fronting.{front_none, front_all}
use Rattle.labels.specs.Headers.{places_of_owner}
use Rattle.labels.specs.Volumes.{places_of_mark}
use Rattle.labels.proofs.OwnerWritten.{volume_bytes, written}
use Rattle.labels.proofs.volume_line.Vol1LabelLine.write.Goals as goal

pub returns : goal.returns
returns c =
    let v = c.args.value.now in
    let bytes : c.put_bytes-5.new.out ≡ volume_bytes v.serial (places_of_mark v.owner) (places_of_owner v.owner) = search (rules, front_none, front_all) in
    bytes ∙ written v.owner v.serial
