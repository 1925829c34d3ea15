use Rattle.std.proofs.Common.{◌≡◌, ◌==◌, ◌*◌, false, arith, refl, rules}
use Rattle.std.proofs.lemmas.Bool.Decides.{nat_tests}
use Rattle.std.proofs.lemmas.Result.{on_ok_weaker}
use Rattle.h5_base.specs.Fields.{undefined}
use Rattle.dtype.specs.Products.{product}
use Rattle.dtype.specs.Types.{size_of}
use Rattle.storage_reader.proofs.storage.adopt_elements.Goals as goal

pub returns-clause-found : goal.returns-clause-found
returns-clause-found g c =
    let there : (c.args.at == undefined) ≡ false = grind (arith, nat_tests) in
    let len : c.unwrap-len.result ≡ product c.args.shape.now.dims * size_of c.args.elem = search rules in
    on_ok_weaker c.adopt_placed.result (λ found met keeps. (_, rw (there, len) refl, found met keeps)) c.adopt_placed.ensures.found
