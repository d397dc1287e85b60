use Rattle.rv_decode.proofs.Complete.{complete}
use Rattle.rv_decode.proofs.encoding.encode.Goals as goal

pub returns-clause-decodes : goal.returns-clause-decodes
returns-clause-decodes c = complete _ _ c.encode_by_format.ensures.means
