use Rattle.file_model.proofs.BitesLemmas.{disorder_in_node, disorder_in_group, name_below_key, name_above_key, key_outside, shared_byte, past_end, own_continuation, loose_chunk, huge_space, place_in_chunk}
use Rattle.file_model.proofs.laws.bites.Goals as goal

pub returns-clause-disorder_in_node : goal.returns-clause-disorder_in_node
returns-clause-disorder_in_node c = disorder_in_node

pub returns-clause-disorder_in_group : goal.returns-clause-disorder_in_group
returns-clause-disorder_in_group c = disorder_in_group

pub returns-clause-name_below_key : goal.returns-clause-name_below_key
returns-clause-name_below_key c = name_below_key

pub returns-clause-name_above_key : goal.returns-clause-name_above_key
returns-clause-name_above_key c = name_above_key

pub returns-clause-key_outside : goal.returns-clause-key_outside
returns-clause-key_outside c = key_outside

pub returns-clause-shared_byte : goal.returns-clause-shared_byte
returns-clause-shared_byte c = shared_byte

pub returns-clause-past_end : goal.returns-clause-past_end
returns-clause-past_end c = past_end

pub returns-clause-own_continuation : goal.returns-clause-own_continuation
returns-clause-own_continuation c = own_continuation

pub returns-clause-loose_chunk : goal.returns-clause-loose_chunk
returns-clause-loose_chunk c = loose_chunk

pub returns-clause-huge_space : goal.returns-clause-huge_space
returns-clause-huge_space c = huge_space

pub returns-clause-place_in_chunk : goal.returns-clause-place_in_chunk
returns-clause-place_in_chunk c = place_in_chunk
