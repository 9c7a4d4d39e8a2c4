-- The law, by the lemmas of `Headers`.

use Rattle.block_codec.proofs.Headers.{header_bytes-same}
use Rattle.block_codec.proofs.laws.headers_are_distinct.Goals as goal

pub returns : goal.returns
returns c = header_bytes-same
