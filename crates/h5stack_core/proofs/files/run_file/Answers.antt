use Rattle.std.proofs.Common.{rules, ◌≡◌, IsTrue, sym, ◌∙◌, subst}
use Rattle.outside.specs.Files.{RestsAt}
use Rattle.plain_space.specs.File.{RestsIn}
use Rattle.plain_space.specs.Plain.{store_of, id_of}
use Rattle.h5stack_core.proofs.FileLemmas.{file_run, unmounted_run, file_goes, file_over, same_bytes, all_same, closed_on, rests_named, rests_seen}
use Rattle.h5stack_core.proofs.files.run_file.Goals as goal

pub returns-in-Ok-clause-goes : goal.returns-in-Ok-clause-goes
returns-in-Ok-clause-goes g c =
    file_goes g.S.Store.tells_files c.args.file.now (id_of c.in-Ok.space) (g.S.Store.view c.args.store) (g.S.Store.view (store_of c.in-Ok.space)) (g.S.Store.view c.into_store.result)
    c.in-Ok.ensures.goes (c.into_store.ensures.touched c.in-Ok.space c.look-looked.ensures.goes).goes c.in-Ok.ensures.name

-- the file's bytes after the run
bytes_same : (g : _) (c : goal.After-into_store g) → IsTrue g.S.Store.tells_files → (g.S.Store.view c.into_store.result).files c.args.file.now ≡ (g.S.Store.view c.args.store).files c.args.file.now
bytes_same g c told =
    same_bytes g.S.Store.tells_files c.args.file.now (id_of c.in-Ok.space) (g.S.Store.view c.args.store) (g.S.Store.view (store_of c.in-Ok.space)) (g.S.Store.view c.into_store.result) told
    c.in-Ok.ensures.goes (c.into_store.ensures.touched c.in-Ok.space c.look-looked.ensures.goes).names c.in-Ok.ensures.name
    (c.into_store.ensures.same_file c.in-Ok.space told c.look-looked.ensures.goes (c.look-looked.ensures.array told) c.look-looked.ensures.ends)

-- a space that rests is a file that rests, by its name
named : (g : _) (c : goal.After-into_store g) → IsTrue g.S.Store.tells_files → IsTrue g.S.Store.tells_images
    → IsTrue (g.S.Store.view c.args.store).honest
    → RestsIn g.S.Store.tells_files g.S.Store.tells_images (g.S.Store.view (store_of c.look-looked.result.space))
    (g.S.Store.leaves (store_of c.look-looked.result.space)) (id_of c.look-looked.result.space)
    → RestsAt c.args.file.now ((g.S.Store.view c.args.store).files c.args.file.now) (g.S.Store.leaves c.into_store.result)
named g c told images honest rests =
    let touched = c.into_store.ensures.touched c.in-Ok.space c.look-looked.ensures.goes in
    let id = c.into_store.ensures.same_id c.in-Ok.space c.look-looked.ensures.goes in
    let goes = returns-in-Ok-clause-goes g c in
    rests_named c.args.file.now ((g.S.Store.view c.args.store).files c.args.file.now) (id_of c.look-looked.result.space)
    (g.S.Store.view c.into_store.result) (g.S.Store.leaves c.into_store.result)
    ((λ k. (g.S.Store.view c.into_store.result).names (id k)) ∙ (λ k. touched.names k (id_of c.in-Ok.space))
    ∙ c.in-Ok.ensures.name) (bytes_same g c told)
    (c.into_store.ensures.rests rests told images (subst IsTrue (sym goes.honest) honest))

pub returns-in-Ok-clause-run : goal.returns-in-Ok-clause-run
returns-in-Ok-clause-run g c = record {
  same = all_same g.S.Store.tells_files c.args.file.now (g.S.Store.view c.args.store) (g.S.Store.view c.into_store.result) (returns-in-Ok-clause-goes g c) (bytes_same g c);
  images = λ told.
      file_over c.args.file.now (id_of c.in-Ok.space) (g.S.Store.view (store_of c.in-Ok.space))
      (g.S.Store.leaves c.args.store) (g.S.Store.leaves (store_of c.in-Ok.space)) (g.S.Store.leaves c.into_store.result)
      (g.S.Store.past c.args.store) (g.S.Store.past (store_of c.in-Ok.space)) (g.S.Store.past c.into_store.result)
      (c.in-Ok.ensures.since told)
      ((c.into_store.ensures.touched c.in-Ok.space c.look-looked.ensures.goes).since told) c.in-Ok.ensures.name;
  lasts = λ told images honest. closed_on _ _ _ (named g c told images honest) c.look-looked.ensures.rests;
  rested = λ told images honest rested.
      let v = g.S.Store.view (store_of c.in-Ok.space) in
      let space = λ (t : IsTrue g.S.Store.tells_files) (i : IsTrue g.S.Store.tells_images) (h : IsTrue v.honest).
      rests_seen g.S.Store.tells_files c.args.file.now (id_of c.in-Ok.space) (g.S.Store.view c.args.store) v
      (g.S.Store.leaves c.args.store) (g.S.Store.leaves (store_of c.in-Ok.space)) told c.in-Ok.ensures.goes
      c.in-Ok.ensures.name (c.in-Ok.ensures.fewer images) rested in
      named g c told images honest (c.look-looked.ensures.rested space);
  answers = λ told.
      file_run _ _ g.S.Store.tells_files (g.S.Store.view (store_of c.in-Ok.space)) (id_of c.in-Ok.space) _ _ _ c.in-Ok.ensures.view (c.in-Ok.ensures.array told) (c.in-Ok.ensures.end told) (c.in-Ok.ensures.admitted told) (c.look-looked.ensures.answers told);
}

pub returns-in-Err-clause-run : goal.returns-in-Err-clause-run
returns-in-Err-clause-run g c = record {
  same = search rules;
  images = search rules;
  lasts = search rules;
  rested = λ told images honest rested c' left. rested c' (c.in-Err.ensures.fewer images c' left);
  answers = λ told. rw c.stopped.ensures (unmounted_run _ _ _ _ _ _ (c.in-Err.ensures.refused told));
}
