use Rattle.std.proofs.Common.{◌≡◌, ◌+◌, ℕ, List, [], ◌∷◌, ◌++◌, map, refl, ap, ◌∙◌}
use Rattle.h5_base.specs.declared.extent.Extent.{Extent}
use Rattle.outside.specs.Blocks.{Block}
use Rattle.header_reader.specs.Walks.{block_of}
use Rattle.header_reader.proofs.walk.Walk.begin.Goals as goal

-- the only block that waits
one_waits : (xs ys : List Extent) (x : Extent) (start len n : ℕ) → xs ≡ [] → ys ≡ xs ++ x ∷ [] → block_of x ≡ record { start = start; len = len } → len ≡ n → map block_of ys ≡ record { start = start; len = n } ∷ []
one_waits xs ys x start len n none pushed is same =
    ap (map block_of) (pushed ∙ ap (λ (l : List Extent). l ++ x ∷ []) none) ∙ ap (λ (y : Block). y ∷ []) (is ∙ ap (λ (k : ℕ). record { start = start; len = k }) same)

pub returns : goal.returns
returns c = record {
  gathered = c.new.ensures;
  waiting = one_waits _ _ _ (c.args.at + 16) _ _ c.new-waiting.ensures.items c.in_ok-push_back.ensures.items refl c.from-len.ensures;
  wanted = refl;
  total = ap (λ (n : ℕ). 16 + n) c.from-len.ensures;
  memory = tt;
}
