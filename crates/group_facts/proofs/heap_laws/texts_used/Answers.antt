use Rattle.group_facts.proofs.HeapTexts.{links_have_texts}
use Rattle.group_facts.proofs.UsedIndex.{used_texts}
use Rattle.group_facts.proofs.heap_laws.texts_used.Goals as goal

pub returns-clause-links : goal.returns-clause-links
returns-clause-links c = links_have_texts

pub returns-clause-index : goal.returns-clause-index
returns-clause-index c = used_texts
