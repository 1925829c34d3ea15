-- Entries and the links that they tell.
use Rattle.std.proofs.Common.{◌≡◌, ℕ, zero, suc, ◌+◌, ◌<◌, List, [], ◌∷◌, ◌++◌, length, take, get_or, sym, ◌∙◌, ap}
use Rattle.std.proofs.Common.{subst, arith, Result, Ok, Err, IfOk, Vec, Global}
use Rattle.std.proofs.lemmas.List.{take_more}
use Rattle.outside.specs.Array.{Array, bytes_of}
use Rattle.outside.specs.Blocks.{Block}
use Rattle.block_space.specs.declared.plan.PlanStop.{PlanStop}
use Rattle.node_codec.specs.declared.snod.SnodEntry.{SnodEntry}
use Rattle.file_model.specs.Index.{Bottom, Node, NoMore, Next, gather, gather_in}
use Rattle.file_model.specs.Groups.{Ks, Found, GroupIndex, GroupIndexes, AreLinks, IsIndex, AreIndexes, links_under}
use Rattle.file_model.specs.Groups.{links_within, HasLinks}
use Rattle.file_model.proofs.UniqueGroups.{links_same}
use Rattle.group_reader.specs.declared.link.FoundLink.{FoundLink}
use Rattle.group_reader.specs.Links.{found_of, links_of}
use Rattle.group_rows.specs.declared.group.GroupAt.{GroupAt}
use Rattle.group_rows.specs.declared.group.GroupRead.{GroupRead}
use Rattle.group_rows.specs.Reading.{IsReadOf}
use Rattle.group_rows.proofs.ListLemmas.{map-append}

links_on : (s : List ℕ) (es more : List SnodEntry) (fs gs : List Found) → AreLinks s es fs → AreLinks s more gs
    → AreLinks s (es ++ more) (fs ++ gs)
links_on s [] more [] gs h k = k
links_on s [] more (f ∷ fs) gs h k = absurd h
links_on s (e ∷ es) more [] gs h k = absurd h
links_on s (e ∷ es) more (f ∷ fs) gs h k = (h.0, h.1, links_on s es more fs gs h.2 k)

-- the entry at an index tells a link
pub link_there : (s : List ℕ) (es : List SnodEntry) (fs : List Found) (i : ℕ) (d : SnodEntry) → i < length es
    → AreLinks s es fs → (f : Found) × AreLinks s (get_or es i d ∷ []) (f ∷ [])
link_there s [] fs i d lt h = absurd (omega arith)
link_there s (e ∷ es) [] i d lt h = absurd h
link_there s (e ∷ es) (f ∷ fs) zero d lt h = (f, (h.0, h.1, tt))
link_there s (e ∷ es) (f ∷ fs) (suc i) d lt h = link_there s es fs i d (omega arith) h.2

-- one link more
pub links_more : (s : List ℕ) (es : List SnodEntry) (i : ℕ) (d : SnodEntry) (links new : List FoundLink)
    (link : FoundLink) → i < length es → AreLinks s (take i es) (links_of links)
    → AreLinks s (get_or es i d ∷ []) (found_of link ∷ []) → new ≡ links ++ link ∷ []
    → AreLinks s (take (i + 1) es) (links_of new)
links_more s es i d links new link lt h one is =
    let all = links_on s (take i es) (get_or es i d ∷ []) (links_of links) (found_of link ∷ []) h one in
    let entries = subst (λ (l : List SnodEntry). AreLinks s l (links_of links ++ found_of link ∷ []))
    (sym (take_more es i d lt)) all in
    subst (AreLinks s (take (i + 1) es))
    (sym (map-append found_of links (link ∷ [])) ∙ ap (λ (l : List FoundLink). links_of l) (sym is)) entries

-- all entries of an index tell its links
mutual
  pub index_links : (b : Array) (ks : Ks) (s : List ℕ) (height : ℕ) (x : GroupIndex) → IsIndex b ks s height x
      → AreLinks s (gather (λ n. []) (λ l. l.entries) x) (links_under x)
  index_links b ks s zero (Bottom l) h = h.links
  index_links b ks s zero (Node n xs) h = absurd h
  index_links b ks s (suc level) (Bottom l) h = absurd h
  index_links b ks s (suc level) (Node n xs) h = indexes_links b ks s level xs h.1

  indexes_links : (b : Array) (ks : Ks) (s : List ℕ) (height : ℕ) (xs : GroupIndexes) → AreIndexes b ks s height xs
      → AreLinks s (gather_in (λ n. []) (λ l. l.entries) xs) (links_within xs)
  indexes_links b ks s height NoMore h = tt
  indexes_links b ks s height (Next x xs) h =
      links_on s (gather (λ n. []) (λ l. l.entries) x) (gather_in (λ n. []) (λ l. l.entries) xs) (links_under x)
      (links_within xs) (index_links b ks s height x h.0) (indexes_links b ks s height xs h.1)

-- the entries that were read of a group tell its links
pub read_links : (b : Array) (group : GroupAt) (read : GroupRead) (fs : List Found) (bs : List Block)
    (h : HasLinks b group.ks group.tree_at group.heap_at fs bs) → IsReadOf b group h.head h.index read
    → (slice : List SnodEntry) → slice ≡ read.entries.items → AreLinks read.heap.segment.items slice fs
read_links b group read fs bs h is slice same =
    let s = bytes_of b h.head.segment_at h.head.len in
    let all = index_links b group.ks s (suc h.level) h.index h.stands in
    let links = subst (AreLinks s (gather (λ n. []) (λ l. l.entries) h.index)) (sym h.links) all in
    let entries = subst (λ (es : List SnodEntry). AreLinks s es fs) (sym (same ∙ is.entries)) links in
    subst (λ (bytes : List ℕ). AreLinks bytes slice fs) (sym is.segment) entries

-- and so the links that they tell are these
pub told_links : (s : List ℕ) (es : List SnodEntry) (fs : List Found) (r : Result (Vec FoundLink Global) PlanStop)
    → AreLinks s es fs → IfOk r (λ links. AreLinks s es (links_of links.items))
    → IfOk r (λ links. links_of links.items ≡ fs)
told_links s es fs (Ok links) h told = links_same s es (links_of links.items) fs told h
told_links s es fs (Err e) h told = tt
