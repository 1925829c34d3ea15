-- Links that are kept behind others, one by one with the entries that tell them.
use Rattle.std.proofs.Common.{◌≡◌, ℕ, ◌+◌, ◌-◌, ◌<◌, ◌≤◌, suc, Bool, List, [], ◌∷◌, ◌++◌, length, length-drop, length-append, take, drop, get_or, Option, IfSome, sym, ◌∙◌, ap, subst, arith}
use Rattle.std.proofs.lemmas.List.{take_all, take_more, take-map, drop-map, map-append, length-map, append_assoc, append-nil, take-append-drop}
use Rattle.std.proofs.lemmas.List.Sums.{sum_by-append}
use Rattle.std.proofs.Math.Seq.{take-append_seam, drop-append_seam, drop-cons}
use Rattle.node_codec.specs.declared.snod.SnodEntry.{SnodEntry}
use Rattle.object_model.specs.Tree.{Name, AreOrdered}
use Rattle.file_model.specs.Groups.{Found, HasText, IsTarget, AreLinks}
use Rattle.file_model.specs.Limits.{target_bytes, text_bytes}
use Rattle.h5_base.specs.declared.refusal.Refusal.{Refusal}
use Rattle.file_model.specs.RefusedGroups.{names_of, IsEntryRefused, AreEntriesRefused}
use Rattle.block_space.proofs.Stopped.{if_some}
use Rattle.group_reader.specs.declared.link.FoundLink.{FoundLink}
use Rattle.group_reader.specs.declared.gathered.Gathered.{Gathered}
use Rattle.group_reader.specs.Links.{target_of, found_of, links_of, IsTold, Adds}
use Rattle.group_reader.proofs.NameLemmas.{IsAnswer}

-- ---- what was kept

pub behind_is : (before now : List FoundLink) (added : List Found) → links_of now ≡ links_of before ++ added → links_of (drop (length before) now) ≡ added
behind_is before now added is =
    sym (drop-map found_of (length before) now)
    ∙ (λ j. drop (sym (length-map before found_of) j) (is j))
    ∙ drop-append_seam (links_of before) added

rest_is : (begin : ℕ) (x : List FoundLink) → take (length x - begin) (drop begin x) ≡ drop begin x
rest_is begin x = take_all (length x - begin) (drop begin x) (omega (arith, length-drop begin x))

-- what was kept before a middle, where more was kept behind it
pub middle_is : (begin middle : ℕ) (before links now x : List FoundLink) (done here : List Found) → begin ≡ length before → middle ≡ length links → x ≡ now → links_of links ≡ links_of before ++ done → links_of now ≡ links_of links ++ here
    → links_of (take (middle - begin) (drop begin x)) ≡ done
middle_is begin middle before links now x done here b m e is more =
    let all : links_of now ≡ links_of before ++ (done ++ here) = more ∙ ap (λ (l : List Found). l ++ here) is ∙ append_assoc (links_of before) done here in
    let counts : length links ≡ length before + length done =
    sym (length-map links found_of) ∙ ap (λ (l : List Found). length l) is ∙ length-append (links_of before) done ∙ ap (λ (n : ℕ). n + length done) (length-map before found_of) in
    let size : middle - begin ≡ length done = omega arith in
    sym (take-map found_of (middle - begin) (drop begin x))
    ∙ (λ j. take (size j) (links_of (drop (b j) (e j))))
    ∙ ap (λ (l : List Found). take (length done) l) (behind_is before now (done ++ here) all)
    ∙ take-append_seam done here

pub adds_grows : {P : List Found → Type 0} (before now : Gathered) → Adds before now P → length before.links.items ≤ length now.links.items
adds_grows before now a =
    let counts = ap (λ (l : List Found). length l) a.behind in
    omega (arith, counts, length-append (links_of before.links.items) a.added, length-map before.links.items found_of, length-map now.links.items found_of)

pub adds_none : {P : List Found → Type 0} (before : Gathered) → P [] → Adds before before P
adds_none before part = record { added = []; behind = sym (append-nil (links_of before.links.items)); spent = omega arith; ordered = tt; part = part }

abbrev text_of : Found → ℕ
text_of f = length f.name + target_bytes f.target

-- a part behind another
pub adds_on : {P Q R : List Found → Type 0} (before links now : Gathered) (a : Adds before links P) (r : Adds links now Q) → AreOrdered (names_of (a.added ++ r.added)) → R (a.added ++ r.added) → Adds before now R
adds_on before links now a r ordered part =
    let texts : text_bytes (a.added ++ r.added) ≡ text_bytes a.added + text_bytes r.added = sum_by-append text_of a.added r.added in
    record {
      added = a.added ++ r.added;
      behind = r.behind ∙ ap (λ (x : List Found). x ++ r.added) a.behind ∙ append_assoc (links_of before.links.items) a.added r.added;
      spent = omega (arith, a.spent, r.spent, texts);
      ordered = ordered;
      part = part;
    }

-- the same links, told otherwise
pub adds_as : {P Q : List Found → Type 0} (before now : Gathered) (a : Adds before now P) → Q a.added → Adds before now Q
adds_as before now a part = record { added = a.added; behind = a.behind; spent = a.spent; ordered = a.ordered; part = part }

-- ---- one entry

pub after_slice : (begin : ℕ) (x now : List FoundLink) (n : Name) (r : Bool) → x ≡ now
    → (AreOrdered (names_of (links_of (take (length x - begin) (drop begin x)))) → IsAnswer r (AreOrdered (names_of (links_of (take (length x - begin) (drop begin x))) ++ n ∷ [])))
    → AreOrdered (names_of (links_of (drop begin now))) → IsAnswer r (AreOrdered (names_of (links_of (drop begin now)) ++ n ∷ []))
after_slice begin x now n r is h =
    subst (λ (l : List FoundLink). AreOrdered (names_of (links_of l)) → IsAnswer r (AreOrdered (names_of (links_of l) ++ n ∷ []))) (rest_is begin x ∙ ap (drop begin) is) h

-- the link of an entry was kept, by its name where it stands
pub record IsKept (s : List ℕ) (done : List Found) (e : SnodEntry) (name : Name) (before mid now : Gathered) : Type 0 where
  pub link : FoundLink
  pub behind : now.links.items ≡ before.links.items ++ link ∷ []
  pub first : target_bytes (target_of link.target) + mid.texts.left ≡ before.texts.left
  pub then : length name + now.texts.left ≡ mid.texts.left
  pub name_is : link.name ≡ name
  pub there : HasText s e.name_at name
  pub target : IsTarget s e (target_of link.target)
  pub ordered : AreOrdered (names_of done ++ name ∷ [])

one_spent : (link : FoundLink) (name : Name) (a b c : ℕ) → link.name ≡ name → target_bytes (target_of link.target) + b ≡ a → length name + c ≡ b → text_bytes (found_of link ∷ []) + c ≡ a
one_spent link name a b c is t n =
    let same : length link.name ≡ length name = ap (λ (l : Name). length l) is in
    omega (arith, same, t, n)

pub add_link : (s : List ℕ) (done : List Found) (e : SnodEntry) (name : Name) (before mid now : Gathered) → IsKept s done e name before mid now → Adds before now (IsTold s done e)
add_link s done e name before mid now k = record {
  added = found_of k.link ∷ [];
  behind = ap (λ (l : List FoundLink). links_of l) k.behind ∙ map-append found_of before.links.items (k.link ∷ []);
  spent = one_spent k.link name before.texts.left mid.texts.left now.texts.left k.name_is k.first k.then;
  ordered = (tt, tt);
  part = (
    (subst (HasText s e.name_at) (sym k.name_is) k.there, k.target, tt),
    subst AreOrdered (sym (map-append (λ (f : Found). f.name) done (found_of k.link ∷ [])))
        (subst (λ (n : Name). AreOrdered (names_of done ++ n ∷ [])) (sym k.name_is) k.ordered),
  );
}

-- ---- entries and their links

links_on : (s : List ℕ) (es more : List SnodEntry) (fs gs : List Found) → AreLinks s es fs → AreLinks s more gs → AreLinks s (es ++ more) (fs ++ gs)
links_on s [] more [] gs h k = k
links_on s [] more (f ∷ fs) gs h k = absurd h
links_on s (e ∷ es) more [] gs h k = absurd h
links_on s (e ∷ es) more (f ∷ fs) gs h k = (h.0, h.1, links_on s es more fs gs h.2 k)

-- the links that the entries before it tell
pub done_is : {P : List Found → Type 0} (begin : ℕ) (before now : Gathered) (a : Adds before now P) → begin ≡ length before.links.items → links_of (drop begin now.links.items) ≡ a.added
done_is begin before now a b = (λ j. links_of (drop (b j) now.links.items)) ∙ behind_is before.links.items now.links.items a.added a.behind

pub add_entry : (s : List ℕ) (entries : List SnodEntry) (i : ℕ) (d : SnodEntry) (done : List Found) (before now new : Gathered) (a : Adds before now (AreLinks s (take i entries))) → i < length entries → done ≡ a.added
    → Adds now new (IsTold s done (get_or entries i d)) → Adds before new (AreLinks s (take (i + 1) entries))
add_entry s entries i d done before now new a lt is r =
    let ordered = subst (λ (l : List Found). AreOrdered (names_of (l ++ r.added))) is r.part.1 in
    adds_on before now new a r ordered
    (subst (λ (l : List SnodEntry). AreLinks s l (a.added ++ r.added)) (sym (take_more entries i d lt)) (links_on s (take i entries) (get_or entries i d ∷ []) a.added r.added a.part r.part.0))

split_at : (entries : List SnodEntry) (i : ℕ) (d : SnodEntry) → i < length entries → entries ≡ take i entries ++ get_or entries i d ∷ drop (suc i) entries
split_at entries i d lt = sym (take-append-drop i entries) ∙ ap (λ (l : List SnodEntry). take i entries ++ l) (drop-cons entries i d lt)

pub one_entry : (s : List ℕ) (heap node : ℕ) (entries : List SnodEntry) (i : ℕ) (d : SnodEntry) (done : List Found) (o : Option Refusal) (before now : Gathered) (a : Adds before now (AreLinks s (take i entries))) → i < length entries
    → done ≡ a.added → IfSome o (IsEntryRefused s heap node done (get_or entries i d)) → IfSome o (AreEntriesRefused s heap node entries)
one_entry s heap node entries i d done o before now a lt is h =
    if_some o (IsEntryRefused s heap node done (get_or entries i d)) (AreEntriesRefused s heap node entries)
    (λ r x. record {
      before = take i entries;
      entry = get_or entries i d;
      later = drop (suc i) entries;
      split = split_at entries i d lt;
      done = a.added;
      links = a.part;
      ordered = a.ordered;
      refused = subst (λ (l : List Found). IsEntryRefused s heap node l (get_or entries i d) r) is x;
    }) h
