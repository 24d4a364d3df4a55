use Rattle.std.proofs.Common.{arith}
use Rattle.words.proofs.LineLaws.{product_fits}
use Rattle.time_points.proofs.adding.time_at_end.Goals as goal

pub overflow_mul-w : goal.overflow_mul-w
overflow_mul-w c = omega (arith, product_fits c.args.weight c.args.tick (omega arith) (omega arith))
