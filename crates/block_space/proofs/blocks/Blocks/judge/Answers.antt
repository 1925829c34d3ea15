use Rattle.std.proofs.Common.{◌∙◌, sym, arith, refl}
use Rattle.outside.specs.Blocks.{Again, Shares, Outside, OneMore}
use Rattle.block_space.proofs.Gathered.{to_lists}
use Rattle.block_space.proofs.Joined.{begins_one, begins_none}
use Rattle.block_space.proofs.blocks.Blocks.judge.Goals as goal

pub returns-then-contains_key-clause-refused : goal.returns-then-contains_key-clause-refused
returns-then-contains_key-clause-refused g c = λ met own keeps.
    let kept = c.args.self.now.catalogue in
    let lists = to_lists kept met c.requires.ordered keeps.lists in
    Again (begins_one kept.entries met lists c.args.start (sym c.contains_key.ensures ∙ c.if-contains_key.true)) refl

pub returns-in-Some-clause-refused : goal.returns-in-Some-clause-refused
returns-in-Some-clause-refused g c = λ met own keeps.
    let kept = c.args.self.now.catalogue in
    let lists = to_lists kept met c.requires.ordered keeps.lists in
    let begins = begins_none kept.entries met lists c.args.start (sym c.contains_key.ensures ∙ c.if-contains_key.false) in
    Shares _ begins (c.in-Some.ensures met lists) refl

pub returns-then-not-lies_inside-clause-refused : goal.returns-then-not-lies_inside-clause-refused
returns-then-not-lies_inside-clause-refused g c = λ met own keeps.
    let kept = c.args.self.now.catalogue in
    let lists = to_lists kept met c.requires.ordered keeps.lists in
    let begins = begins_none kept.entries met lists c.args.start (sym c.contains_key.ensures ∙ c.if-contains_key.false) in
    rw c.malformed.ensures (Outside begins (c.in_default.ensures met lists)
    (λ inside. let e = (c.if-not-lies_inside.ensures own).1 inside in cc) refl)

pub returns-then-len-ge-MOST_BLOCKS-clause-refused : goal.returns-then-len-ge-MOST_BLOCKS-clause-refused
returns-then-len-ge-MOST_BLOCKS-clause-refused g c = λ met own keeps.
    let kept = c.args.self.now.catalogue in
    let lists = to_lists kept met c.requires.ordered keeps.lists in
    let begins = begins_none kept.entries met lists c.args.start (sym c.contains_key.ensures ∙ c.if-contains_key.false) in
    OneMore begins (c.in_default.ensures met lists) ((c.if-not-lies_inside.ensures own).0 refl)
    (omega (arith, lists.count)) refl

pub returns-clause-free : goal.returns-clause-free
returns-clause-free g c = λ met keeps.
    let kept = c.args.self.now.catalogue in
    let lists = to_lists kept met c.requires.ordered keeps.lists in
    record {
      few = omega (arith, lists.count);
      begins = begins_none kept.entries met lists c.args.start (sym c.contains_key.ensures ∙ c.if-contains_key.false);
      apart = c.in_default.ensures met lists;
      inside = λ own. (c.if-not-lies_inside.ensures own).0 refl;
    }

pub returns-clause-inside : goal.returns-clause-inside
returns-clause-inside g c = λ own. (c.if-not-lies_inside.ensures own).0 refl
