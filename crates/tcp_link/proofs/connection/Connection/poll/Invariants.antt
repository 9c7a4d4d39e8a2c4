-- What has arrived, with what the stream has left, is kept.

use Rattle.std.specs.Io.KnownBytes.{Keeps, prepend_known}
use Rattle.tcp_link.proofs.connection.Connection.poll.Given as goal

abbrev pub invariant-looks : goal.invariant-looks
invariant-looks g l = Keeps
    (prepend_known l.initial.self.arrived (g.S.Read.remaining l.initial.self.stream))
    (prepend_known l.self.arrived (g.S.Read.remaining l.self.stream))
