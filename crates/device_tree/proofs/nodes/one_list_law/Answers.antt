use Rattle.device_tree.proofs.OneList.{same_list}
use Rattle.device_tree.proofs.nodes.one_list_law.Goals as goal

pub returns : goal.returns
returns c = λ tree ranges others h w. same_list tree ranges others h w
