use Rattle.std.proofs.Common.{◌≡◌, ◌+◌, ◌-◌, ◌++◌, length, take, ap, ◌∙◌, arith}
use Rattle.std.proofs.lemmas.Slice.{take-put_mid}
use Rattle.places.specs.Fronts.{front}
use Rattle.places.proofs.puts.put_bytes.Goals as goal

pub returns : goal.returns
unfolding front
returns c =
    let out = c.args.out.now in
    let from = c.args.from in
    let bytes = c.args.bytes.now in
    let put : c.copy_from_slice.new.self ≡ bytes = c.copy_from_slice.ensures.after in
    take-put_mid from (from + length bytes - from) out c.copy_from_slice.new.self (from + length bytes) (omega (arith, ap length put)) (omega arith) ∙ ap (λ l. take from out ++ l) put
