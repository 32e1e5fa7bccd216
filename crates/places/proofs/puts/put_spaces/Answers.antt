use Rattle.std.proofs.Common.{◌≡◌, ℕ, ◌-◌, ◌++◌, length, take, replicate, ap, ◌∙◌, arith}
use lib.ListN.{length-replicate}
use Rattle.std.specs.List.{between}
use Rattle.std.proofs.lemmas.List.Edits.{length-between}
use Rattle.std.proofs.lemmas.Slice.{take-put_mid}
use Rattle.places.specs.Fronts.{front}
use Rattle.places.proofs.puts.put_spaces.Goals as goal

pub returns : goal.returns
unfolding front
returns c =
    let out = c.args.out.now in
    let from = c.args.from in
    let to = c.args.to in
    let long : length (between from to out) ≡ to - from = length-between out from to (omega arith) in
    let put : c.fill.new.self ≡ replicate (to - from) 32 = c.fill.ensures.after (λ y h. h) ∙ ap (λ (k : ℕ). replicate k 32) long in
    take-put_mid from (to - from) out c.fill.new.self to (omega (arith, ap length put, length-replicate {A = ℕ} (to - from) 32)) (omega arith) ∙ ap (λ l. take from out ++ l) put
