-- The fixed replies fit the bytes that are kept for one.
use Rattle.std.proofs.Common.{Bool, true, false, lit≤}
use Rattle.std.specs.Fmt.{digits}
use Rattle.ports_http.specs.declared.fault.HeadFault.{HeadFault}
use Rattle.ports_http.specs.declared.fault.HeadFault.TheVariants.{Malformed, HeadTooLarge, UnknownMethod, TransferEncoding, HostCount}
use Rattle.ports_http.specs.declared.fault.HeadFault.TheVariants.{ContentLength, LengthRequired, BodyTooLarge}
use Rattle.ports_http.specs.Limits.{fixed_limit}
use Rattle.ports_http.specs.Replies.{reply_text, status_text, IsFixed, unknown_key, store_failed, fault_reply}

pub unknown_key_fits : (close : Bool) → IsFixed unknown_key close
unfolding reply_text status_text fixed_limit digits
unknown_key_fits true = lit≤ tt
unknown_key_fits false = lit≤ tt

pub store_failed_fits : (close : Bool) → IsFixed store_failed close
unfolding reply_text status_text fixed_limit digits
store_failed_fits true = lit≤ tt
store_failed_fits false = lit≤ tt

pub fault_reply_fits : (refusal : HeadFault) (close : Bool) → IsFixed (fault_reply refusal) close
unfolding reply_text status_text fixed_limit digits
fault_reply_fits Malformed true = lit≤ tt
fault_reply_fits Malformed false = lit≤ tt
fault_reply_fits HeadTooLarge true = lit≤ tt
fault_reply_fits HeadTooLarge false = lit≤ tt
fault_reply_fits UnknownMethod true = lit≤ tt
fault_reply_fits UnknownMethod false = lit≤ tt
fault_reply_fits TransferEncoding true = lit≤ tt
fault_reply_fits TransferEncoding false = lit≤ tt
fault_reply_fits HostCount true = lit≤ tt
fault_reply_fits HostCount false = lit≤ tt
fault_reply_fits ContentLength true = lit≤ tt
fault_reply_fits ContentLength false = lit≤ tt
fault_reply_fits LengthRequired true = lit≤ tt
fault_reply_fits LengthRequired false = lit≤ tt
fault_reply_fits BodyTooLarge true = lit≤ tt
fault_reply_fits BodyTooLarge false = lit≤ tt
