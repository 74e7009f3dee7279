-- What the program asks of its host, and what the host's answers mean.
use Rattle.std.specs.Prelude.{◌≡◌, ◌⊎◌, ℕ, zero, suc, [], ◌∷◌}
use Rattle.std.specs.declared.io.ErrorKind.{ErrorKind}
use Rattle.std.specs.declared.io.ErrorKind.TheVariants.{WouldBlock, Interrupted}
use Rattle.std.specs.declared.net.ipv4_addr.Ipv4Addr.{Ipv4Addr}
use Rattle.std.specs.declared.net.ip_addr.IpAddr.TheVariants as ips
use Rattle.std.specs.declared.net.socket_addr.SocketAddr.{SocketAddr}
use Rattle.std.specs.Net.Addr.{ipv4_octets}
use Rattle.std.specs.Net.Socket.{socket_ip, socket_port}
use Rattle.ports_serve.specs.declared.wire.Outcome.{Outcome}
use Rattle.ports_serve.specs.declared.wire.Outcome.TheVariants.{Nothing, Got, End, Fault}

-- the address is that of a port on 127.0.0.1
abbrev pub IsLocalAddress : ℕ → SocketAddr → Type 0
IsLocalAddress port address =
    (ip : Ipv4Addr) × (ipv4_octets ip ≡ 127 ∷ 0 ∷ 0 ∷ 1 ∷ []) × (socket_ip address ≡ ips.V4 ip) × (socket_port address ≡ port)

-- a call that failed so is to be tried again later
abbrev pub IsTriedAgain : ErrorKind → Type 0
IsTriedAgain kind = (kind ≡ WouldBlock) ⊎ (kind ≡ Interrupted)

-- what a call brought that failed so: nothing yet, or a fault
abbrev pub FailsAs : {T : Type 0} → ErrorKind → Outcome T → Type 0
FailsAs kind outcome = (IsTriedAgain kind × (outcome ≡ Nothing)) ⊎ (¬ (IsTriedAgain kind) × (outcome ≡ Fault))

-- what a read of so many bytes brought: of none, the end
abbrev pub heard : ℕ → Outcome ℕ
heard zero = End
heard (suc more) = Got (suc more)
