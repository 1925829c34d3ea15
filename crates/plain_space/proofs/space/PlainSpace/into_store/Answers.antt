use Rattle.std.proofs.Common.{ap}
use Rattle.h5_base.specs.declared.extent.MemClass.TheVariants.{Super}
use Rattle.outside.specs.Array.{Ends}
use Rattle.plain_space.proofs.Views.{counts_same, told_same}
use Rattle.plain_space.proofs.space.PlainSpace.into_store.Goals as goal

pub returns-clause-same_file : goal.returns-clause-same_file
returns-clause-same_file g c = λ a told came array ends.
    told_same g.S.Store.tells_files (g.S.Store.view a.store) (g.S.Store.view c.args.self.store) a.id.n c.args.self.id.n told came.id array (came.store.unseen told)
    (came.same_length told (ap (λ (e : Ends). e Super) ends))

pub returns-clause-calm : goal.returns-clause-calm
returns-clause-calm g c = λ a came calm.
    counts_same (g.S.Store.view a.store) (g.S.Store.view c.args.self.store) a.id.n c.args.self.id.n came.id came.store.others calm
