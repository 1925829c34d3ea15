use Rattle.std.proofs.Common.{[], None, ap, ◌∙◌, sym, Err, subst}
use Rattle.outside.specs.Space.{bounds_of}
use Rattle.block_space.specs.Blocks.{space_of}
use Rattle.super_codec.specs.Super.{Spells}
use Rattle.super_codec.specs.declared.superblock.SuperStop.TheVariants as super_stop
use Rattle.object_tree.proofs.Rooted.{super_read, super_refused_at, no_super}
use Rattle.object_tree.proofs.open.read_superblock.Goals as goal

pub returns-in-Ok-adopt-clause-found : goal.returns-in-Ok-adopt-clause-found
returns-in-Ok-adopt-clause-found g c = λ told.
    let same = super_read g.V.Space.view (space_of c.args.blocks.now) c.space.result.now c.deref.result.now c.in-Ok.bytes.items _ c.end.result c.space.ensures c.end.ensures c.min-len.ensures (c.in-Ok.ensures.bytes told) c.deref.ensures.value in
    subst (Spells c.in-Ok-read_super.superblock) same c.in-Ok-read_super.ensures.found

pub returns-in-Ok-adopt-clause-taken : goal.returns-in-Ok-adopt-clause-taken
returns-in-Ok-adopt-clause-taken g c = rw c.byte_len.ensures at (c.in-Ok-adopt.ensures.found [] (c.in-Ok.ensures.kept [] c.requires.empty))

pub returns-in-Ok-adopt-clause-alike : goal.returns-in-Ok-adopt-clause-alike
returns-in-Ok-adopt-clause-alike g c = subst (g.V.Kept.Alike (space_of c.args.blocks.now)) (sym c.adopt.ensures.space) c.in-Ok.ensures.alike

pub returns-in-Ok-read_super-clause-alike : goal.returns-in-Ok-read_super-clause-alike
returns-in-Ok-read_super-clause-alike g c = subst (g.V.Kept.Alike (space_of c.args.blocks.now)) (sym c.adopt.ensures.space) c.in-Ok.ensures.alike

pub returns-in-Ok-read_super-clause-refused : goal.returns-in-Ok-read_super-clause-refused
returns-in-Ok-read_super-clause-refused g c = λ told.
    let same = super_read g.V.Space.view (space_of c.args.blocks.now) c.space.result.now c.deref.result.now c.in-Ok.bytes.items _ c.end.result c.space.ensures c.end.ensures c.min-len.ensures (c.in-Ok.ensures.bytes told) c.deref.ensures.value in
    super_refused_at (g.V.Space.view (space_of c.args.blocks.now)) _ c.in-Ok-read_super.superblock c.in-Err-adopt.stop c.byte_len.result (g.met.V.Space.alike _ _ c.in-Ok.ensures.alike) c.byte_len.ensures c.requires.first (subst (Spells c.in-Ok-read_super.superblock) same c.in-Ok-read_super.ensures.found)
    (c.in-Err-adopt.ensures.refused [] None (c.in-Ok.ensures.kept [] c.requires.empty))

pub returns-in-Err-NotThis-clause-refused : goal.returns-in-Err-NotThis-clause-refused
returns-in-Err-NotThis-clause-refused g c = λ told.
    let same = super_read g.V.Space.view (space_of c.args.blocks.now) c.space.result.now c.deref.result.now c.in-Ok.bytes.items _ c.end.result c.space.ensures c.end.ensures c.min-len.ensures (c.in-Ok.ensures.bytes told) c.deref.ensures.value in
    rw c.malformed.ensures (no_super (g.V.Space.view (space_of c.args.blocks.now)).array (bounds_of (g.V.Space.view (space_of c.args.blocks.now)) None) c.deref.result.now c.read_super.result super_stop.NotThis same c.read_super.ensures.only (c.in-Err-NotThis.is ∙ ap Err c.in-Err-NotThis.field-0-is) (sym c.in-Err-NotThis.field-0-is ∙ c.in-Err-NotThis.ensures.stop))

pub returns-clause-refused : goal.returns-clause-refused
returns-clause-refused g c = λ told.
    let same = super_read g.V.Space.view (space_of c.args.blocks.now) c.space.result.now c.deref.result.now c.in-Ok.bytes.items _ c.end.result c.space.ensures c.end.ensures c.min-len.ensures (c.in-Ok.ensures.bytes told) c.deref.ensures.value in
    let stop = super_stop.Unsupported c.in-Err-Unsupported.what in
    rw c.unsupported.ensures (no_super (g.V.Space.view (space_of c.args.blocks.now)).array (bounds_of (g.V.Space.view (space_of c.args.blocks.now)) None) c.deref.result.now c.read_super.result stop same c.read_super.ensures.only (c.in-Err-Unsupported.is ∙ ap Err c.in-Err-Unsupported.field-0-is) (sym c.in-Err-Unsupported.field-0-is ∙ c.in-Err-Unsupported.ensures.stop))
