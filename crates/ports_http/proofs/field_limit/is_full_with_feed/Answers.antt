use Rattle.std.proofs.Common.{arith}
use Rattle.ports_http.specs.Limits.{head_limit}
use Rattle.ports_http.proofs.field_limit.is_full_with_feed.Goals as goal

pub copy_with_feed-requires : goal.copy_with_feed-requires
unfolding head_limit
copy_with_feed-requires c = omega (arith, c.requires)
