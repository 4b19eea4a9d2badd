-- The peer at an address of the system.
use Rattle.std.specs.Net.Addr.{ipv4_bits, ipv6_bits}
use Rattle.std.specs.Net.Socket.{v4_ip, v4_port, v6_ip, v6_port}
use Rattle.std.specs.declared.net.socket_addr.SocketAddr.{SocketAddr}
use Rattle.std.specs.declared.net.socket_addr.SocketAddr.TheVariants as Socket
use Rattle.service_core.specs.declared.peer.Peer.{Peer}
use Rattle.service_core.specs.declared.peer.Peer.TheVariants.{V4, V6}

-- its host as a number, and its port
abbrev pub peer_at : SocketAddr → Peer
peer_at (Socket.V4 addr) = V4 (ipv4_bits (v4_ip addr)) (v4_port addr)
peer_at (Socket.V6 addr) = V6 (ipv6_bits (v6_ip addr)) (v6_port addr)
