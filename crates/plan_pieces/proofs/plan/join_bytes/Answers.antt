use Rattle.std.proofs.Common.{rules, ◌≡◌, ◌++◌, ◌∙◌, ap, sym, List, ℕ}
use Rattle.std.specs.Prelude.{map}
use Rattle.std.proofs.lemmas.Simd.{map-map}
use Rattle.plan_pieces.specs.declared.image.Image.{Image}
use Rattle.plan_pieces.specs.declared.image.NewBlock.{NewBlock}
use Rattle.plan_pieces.specs.Plan.{bytes_in}
use Rattle.plan_pieces.proofs.plan.join_bytes.Goals as goal

pub returns-in-Ok : goal.returns-in-Ok
returns-in-Ok c =
    let both : c.in-Ok.bytes.items ≡ bytes_in c.args.images.items
    ++ map (λ (n : NewBlock). n.image.bytes) c.args.fills.items = search rules in
    both ∙ ap (λ (bs : List (List ℕ)). bytes_in c.args.images.items ++ bs)
    (sym (map-map (λ (i : Image). i.bytes) (λ (n : NewBlock). n.image) c.args.fills.items))
