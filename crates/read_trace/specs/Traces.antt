-- Questions about files with their answers, as this crate's types have them.
use Rattle.mk_paths.specs.FilesView as view
use Rattle.read_trace.specs.declared.trace.Reply.{Reply}
use Rattle.read_trace.specs.declared.trace.Reply.TheVariants as replies

-- the answer that a reply is
abbrev pub reply_of : Reply → view.Reply
reply_of (replies.Presence there) = view.Presence there
reply_of (replies.Contents content) = view.Contents content
