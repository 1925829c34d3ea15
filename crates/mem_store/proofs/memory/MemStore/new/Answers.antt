use Rattle.std.proofs.Common.{◌≡◌, ◌<◌, ◌++◌, ◌∷◌, [], ℕ, List, length, sym, ap, subst, ◌∙◌, arith, refl, append_assoc}
use Rattle.file_ids.specs.Ids.{told, place_of}
use Rattle.mem_store.specs.declared.given.NamedBytes.{NamedBytes}
use Rattle.mem_store.specs.Held.{Held, IsNew, with_new, first_bytes}
use Rattle.mem_store.specs.Memory.{held}
use Rattle.mem_store.proofs.FilesLemmas.{shows_again, shows_more, shows_map, shows_at, shows_nothing, all_given}
use Rattle.mem_store.proofs.MemoryLemmas.{IsNew-nothing, IsNew-more}
use Rattle.mem_store.proofs.memory.MemStore.new.Goals as goal

pub loop-file-init : goal.loop-file-init
loop-file-init c =
    let is = c.in_ok-store.ensures in
    record {
      left = sym c.into_iter-file-iterator.ensures.into_iter_gives.0;
      shows = shows_at _ _ _ _ _ _ shows_nothing (ap (λ (h : Held). h.ids.names) is) (ap (λ (h : Held). h.contents) is);
      new = subst IsNew (sym is) (IsNew-nothing c.args.fails.items c.args.room);
      fails = refl;
      room = refl;
    }

pub loop-file-preserved-in-Some-find : goal.loop-file-preserved-in-Some-find
loop-file-preserved-in-Some-find c =
    let known : place_of c.in-Some.file.name c.loop-file.store.ids.names < length c.loop-file.store.ids.names =
    omega (arith, c.in-Some-find.ensures.place.0, c.in-Some-find.ensures.place.1) in
    record {
      left = c.loop-file.invariant.left ∙ ap (λ (l : List NamedBytes). c.loop-file.yielded ++ l) c.in-Some.ensures.steps.0 ∙ sym (append_assoc c.loop-file.yielded (c.in-Some.file ∷ []) _);
      shows = shows_map _ _ _ c.in-Some.file (shows_again _ _ _ _ c.in-Some.file.name c.in-Some.file.bytes c.loop-file.invariant.shows known);
      new = c.loop-file.invariant.new;
      fails = c.loop-file.invariant.fails;
      room = c.loop-file.invariant.room;
    }

pub loop-file-preserved : goal.loop-file-preserved
loop-file-preserved c =
    let old = c.loop-file.invariant in
    let more = shows_more _ _ _ _ c.in-Some.file.name c.in-Some.file.bytes old.shows c.in-None-find.ensures.place in
    let is : held c.add.new.self ≡ with_new c.in-Some.file.name c.in-Some.file.bytes (held c.loop-file.store) =
    c.in_ok-add-in-None-find.ensures.ok ∙ ap (λ (l : List ℕ). with_new c.in-Some.file.name l (held c.loop-file.store)) c.as_slice.ensures in
    record {
      left = c.loop-file.invariant.left ∙ ap (λ (l : List NamedBytes). c.loop-file.yielded ++ l) c.in-Some.ensures.steps.0 ∙ sym (append_assoc c.loop-file.yielded (c.in-Some.file ∷ []) _);
      shows = shows_map _ _ _ c.in-Some.file (shows_at _ _ _ _ _ _ more (ap (λ (h : Held). h.ids.names) is) (ap (λ (h : Held). h.contents) is));
      new = subst IsNew (sym is) (IsNew-more c.in-Some.file.name c.in-Some.file.bytes (held c.loop-file.store) old.new);
      fails = ap (λ (h : Held). h.fails) is ∙ old.fails;
      room = ap (λ (h : Held). h.room) is ∙ old.room;
    }

pub returns-clause-files : goal.returns-clause-files
unfolding told
returns-clause-files c q =
    c.loop-file.invariant.shows.files q
    ∙ ap (λ (l : List NamedBytes). first_bytes l q) (all_given _ _ _ _ c.loop-file.invariant.left c.loop-file.file-iterator.rest.ok.0 c.in-None.ensures.steps.0)

pub returns-clause-new : goal.returns-clause-new
returns-clause-new c = c.loop-file.invariant.new

pub returns-clause-fails : goal.returns-clause-fails
returns-clause-fails c = c.loop-file.invariant.fails ∙ ap (λ (h : Held). h.fails) c.in_ok-store.ensures

pub returns-clause-room : goal.returns-clause-room
returns-clause-room c = c.loop-file.invariant.room ∙ ap (λ (h : Held). h.room) c.in_ok-store.ensures

pub returns-clause-counts : goal.returns-clause-counts
unfolding told
returns-clause-counts c = c.loop-file.invariant.new.faults

pub returns-clause-honest : goal.returns-clause-honest
unfolding told
returns-clause-honest c = refl
