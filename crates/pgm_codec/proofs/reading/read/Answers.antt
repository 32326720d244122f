use Rattle.pgm_codec.proofs.Images.{read_found, read_only, read_fails, read_without_device}
use Rattle.pgm_codec.proofs.reading.read.Goals as goal

pub returns-clause-found : goal.returns-clause-found
returns-clause-found c = read_found c.args.text.now c.image.result c.image.ensures

pub returns-clause-only : goal.returns-clause-only
returns-clause-only c = read_only c.args.text.now c.image.result c.image.ensures

pub returns-clause-fault : goal.returns-clause-fault
returns-clause-fault c = read_fails c.args.text.now c.image.result c.image.ensures

pub returns-clause-device : goal.returns-clause-device
returns-clause-device c = read_without_device c.args.text.now c.image.result c.image.ensures
