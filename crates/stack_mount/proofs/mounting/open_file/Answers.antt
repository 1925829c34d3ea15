use Rattle.std.proofs.Common.{List, ℕ, length, ◌∙◌, ap}
use Rattle.outside.specs.Array.{array_of}
use Rattle.plain_space.specs.Alike.{same_file}
use Rattle.plain_space.specs.File.{file_in, seen}
use Rattle.plain_space.proofs.Views.{array_told}
use Rattle.stack_mount.proofs.Seen.{names_given, seen_call, seen_on}
use Rattle.stack_mount.proofs.mounting.open_file.Goals as goal

pub returns-in-Ok-open-clause-end : goal.returns-in-Ok-open-clause-end
returns-in-Ok-open-clause-end g c = λ told.
    let v = g.S.Store.view c.file.new.self in
    c.in-Ok-open.ensures.end told
    ∙ ap (λ (q : List ℕ). length (seen (v.files q))) c.in-Ok.ensures.given.named
    ∙ ap (λ (f : List ℕ). length (seen f)) (c.in-Ok.ensures.call.others told c.args.file.now (λ changed. changed))

pub returns-in-Ok-open-clause-array : goal.returns-in-Ok-open-clause-array
returns-in-Ok-open-clause-array g c = λ told.
    let space = c.in-Ok-open.space in
    let v = g.S.Store.view c.file.new.self in
    let w = g.S.Store.view space.store in
    array_told g.S.Store.tells_files (file_in w space.id.n) told
    ∙ ap (λ (f : List ℕ). array_of (seen f))
    (same_file g.S.Store.tells_files v w c.in-Ok.id.n space.id.n c.in-Ok-open.ensures.looks.names c.in-Ok-open.ensures.looks.goes c.in-Ok-open.ensures.id told
    ∙ ap (λ (q : List ℕ). v.files q) c.in-Ok.ensures.given.named
    ∙ c.in-Ok.ensures.call.others told c.args.file.now (λ changed. changed))

pub returns-in-Ok-open-clause-left : goal.returns-in-Ok-open-clause-left
returns-in-Ok-open-clause-left g c =
    let call = c.file.ensures in
    let names = names_given c.args.file.now c.in-Ok.id.n (g.S.Store.view c.args.store) (g.S.Store.view c.file.new.self) c.in-Ok.ensures.given in
    seen_on _ _ c.args.file.now c.in-Ok.id.n _ _ _ _ _ _ _ _ _ c.in-Ok.ensures.given.named (seen_call g.S.Store.tells_files g.S.Store.tells_images c.args.file.now _ _ _ _ _ _ _ _ call.call names call.images call.time) c.in-Ok-open.ensures.looks

pub returns-in-Err-NoMemory-clause-left : goal.returns-in-Err-NoMemory-clause-left
returns-in-Err-NoMemory-clause-left g c =
    let call = c.file.ensures in
    seen_call g.S.Store.tells_files g.S.Store.tells_images c.args.file.now _ _ _ _ _ _ _ _ call.call (λ i some. ap (λ (f : ℕ → List ℕ). f i) c.in-Err-NoMemory.ensures.same.names) call.images call.time

pub returns-in-Err-Failed-clause-left : goal.returns-in-Err-Failed-clause-left
returns-in-Err-Failed-clause-left g c =
    let call = c.file.ensures in
    seen_call g.S.Store.tells_files g.S.Store.tells_images c.args.file.now _ _ _ _ _ _ _ _ call.call (λ i some. ap (λ (f : ℕ → List ℕ). f i) c.in-Err-Failed.ensures.same.names) call.images call.time

pub returns-in-Err-clause-left : goal.returns-in-Err-clause-left
returns-in-Err-clause-left g c =
    let call = c.file.ensures in
    let names = names_given c.args.file.now c.in-Ok.id.n (g.S.Store.view c.args.store) (g.S.Store.view c.file.new.self) c.in-Ok.ensures.given in
    seen_on _ _ c.args.file.now c.in-Ok.id.n _ _ _ _ _ _ _ _ _ c.in-Ok.ensures.given.named (seen_call g.S.Store.tells_files g.S.Store.tells_images c.args.file.now _ _ _ _ _ _ _ _ call.call names call.images call.time) c.in-Err.ensures.looks
