use Rattle.text.proofs.Cuts.{fields-cut}
use Rattle.text.proofs.cut.first_field.Goals as goal

pub returns : goal.returns
returns c = let cut = fields-cut c.args.line.now in let split = c.split_once.ensures in rw (split.front, split.back) cut
